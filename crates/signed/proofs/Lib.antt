-- `Laws` lets `omega` read signed numbers; `Examples` shows what it then closes.
pub mod Laws
pub mod Examples
