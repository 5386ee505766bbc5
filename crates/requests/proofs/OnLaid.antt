-- Bytes cut into pieces, and pieces laid out as bytes.
pub mod CutLaws
pub mod TurnLaws
pub mod LaidLaws
pub mod BytesLaws
pub mod StoreLaws
