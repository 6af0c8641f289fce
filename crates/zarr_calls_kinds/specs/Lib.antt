pub mod ByteCodecs
