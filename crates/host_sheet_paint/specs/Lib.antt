pub mod RecordPaint
