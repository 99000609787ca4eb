pub mod MessagePassing
