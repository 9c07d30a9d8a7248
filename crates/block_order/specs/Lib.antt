pub mod BlockOrder
