-- Numbers in decimal, the lengths of texts, the form of the exchange text, a text in a lent buffer.
pub mod DecimalLaws
pub mod WriteLaws
pub mod LengthLaws
pub mod DigitLaws
pub mod FilledLaws
pub mod ExchangeLaws
