-- The hash function SHA-256 of FIPS 180-4, and the hash of a message of words, which the crates above know by its laws alone.
pub mod Sha256
pub mod Digest
