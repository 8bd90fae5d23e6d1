pub mod Decimal
pub mod Inside
