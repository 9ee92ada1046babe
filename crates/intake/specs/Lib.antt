pub mod FileKinds
