mod Pushed
mod Decimal
mod Texts
mod Drilled
mod Rules
