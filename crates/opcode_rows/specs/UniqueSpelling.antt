pub mod FieldsOf
