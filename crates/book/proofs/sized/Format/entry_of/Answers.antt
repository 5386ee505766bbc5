-- A checked book has as many records as its length says, and each is sound.
use Rattle.std.proofs.Common.{◌-◌, ◌/◌, ◌≤◌, ◌<◌, sym, ap, ◌∙◌, arith}
use Rattle.rules.specs.Book.{length_said}
use Rattle.book.specs.Views.{found_as}
use Rattle.book.proofs.Laws.{head-stands, entry_past, inside, entry_here, sound_here, found-or}
use Rattle.book.proofs.sized.Format.entry_of.Goals as goal

pub length_said-said-requires : goal.length_said-said-requires
length_said-said-requires c =
    let f = c.args.self in
    let h = (head-stands f.frame.size f.frame.most f.frame.version f.plain f.least f.frame.fits c.args.b.now c.requires).0 in omega arith

pub overflow_sub-said : goal.overflow_sub-said
overflow_sub-said c =
    let f = c.args.self in
    let h = (head-stands f.frame.size f.frame.most f.frame.version f.plain f.least f.frame.fits c.args.b.now c.requires).1 in omega arith

pub slot_at-requires : goal.slot_at-requires
slot_at-requires c =
    let f = c.args.self in
    let s = c.args.b.now in
    let l : c.args.place < (length_said s - 1) / f.frame.size = rw c.length_said-said.ensures at c.if-place-said.true in
    inside f.frame.size f.frame.most f.frame.version f.plain f.least f.frame.fits s c.requires c.args.place l

pub returns-then-place-said : goal.returns-then-place-said
returns-then-place-said c =
    let f = c.args.self in
    let s = c.args.b.now in
    let l : c.args.place < (length_said s - 1) / f.frame.size = rw c.length_said-said.ensures at c.if-place-said.true in
    ap found_as c.ok_or.ensures.value
    ∙ found-or c.slot_at.result _ _ c.slot_at.ensures (sound_here f.frame.size f.frame.most f.frame.version f.plain f.least f.frame.fits s c.requires c.args.place l)
    ∙ sym (entry_here f.frame.size f.frame.most f.frame.version f.plain f.least f.frame.fits s c.requires c.args.place l)

pub returns-else-place-said : goal.returns-else-place-said
returns-else-place-said c =
    let f = c.args.self in
    let s = c.args.b.now in
    let l : (length_said s - 1) / f.frame.size ≤ c.args.place = rw c.length_said-said.ensures at c.if-place-said.false in
    sym (entry_past f.frame.size f.frame.most f.frame.version f.plain f.least f.frame.fits s c.requires c.args.place l)
