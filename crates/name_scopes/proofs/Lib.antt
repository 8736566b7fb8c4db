mod Bound
mod Noted
mod Declared
