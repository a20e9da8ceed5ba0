pub mod FirstTold
