pub mod Civil
