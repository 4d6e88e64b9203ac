pub mod RecordNumbers
