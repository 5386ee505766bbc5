-- Version 1's bytes, and two of the field number after the first.
use Rattle.rules.specs.Words.{big_bytes}
use Rattle.rules.specs.Book.{entry_bytes}
use Rattle.requests.specs.Second.{field_entry_bytes}
use Rattle.book_versions.proofs.second.bytes_of.Goals as goal

pub returns : goal.returns
unfolding field_entry_bytes entry_bytes big_bytes
returns c = rw (c.bytes_of.ensures, c.to_be_bytes.ensures)
