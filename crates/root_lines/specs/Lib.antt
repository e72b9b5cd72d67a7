pub mod RootBlock
