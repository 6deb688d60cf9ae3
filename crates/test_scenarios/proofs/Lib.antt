pub mod PrefixesExtend
pub mod FirstChannelsShare
pub mod WalksOutgrowNumbers
