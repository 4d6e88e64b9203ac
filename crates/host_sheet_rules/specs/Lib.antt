pub mod RecordRules
