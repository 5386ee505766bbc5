-- By where the key was found.
use Rattle.std.proofs.Common.{◌≡◌, ℕ, ◌+◌, List, length, take, ap, ◌∙◌, arith}
use Rattle.std.proofs.Math.Seq.{take_all}
use Rattle.std.specs.Prelude.{Result}
use Rattle.requests.specs.FieldTable.{key_in}
use Rattle.field_table.specs.Search.{entries_in, find_of}
use Rattle.field_table.proofs.Finds.{at-inside, absent-inside}
use Rattle.field_table.proofs.Changes.{declare-over, declare-in, declare-full, declare-short}
use Rattle.field_table.proofs.sized.Format.declare.Goals as goal
use Rattle.field_table.proofs.sized.Format.declare.Goals.{then-self-n-via-then-self-n, then-self-n-via-else-self-n+then-b-end}

-- the search answered of the entry's key
searched : (key_size : ℕ) {key : ℕ} {answer : Result ℕ ℕ} (rs : List (List ℕ)) (entry : List ℕ) → length entry ≡ key_size + 1 →
    key ≡ key_in key_size (take (key_size + 1) entry) → answer ≡ find_of key_size key rs → answer ≡ find_of key_size (key_in key_size entry) rs
searched key_size rs entry long e answered =
    answered ∙ ap (λ (q : ℕ). find_of key_size q rs) (e ∙ ap (key_in key_size) (take_all (key_size + 1) entry (omega arith)))

pub overflow_mul-i : goal.overflow_mul-i
overflow_mul-i c = let a = c.args in omega (arith, at-inside a.self.key_size a.n a.b.now (key_in a.self.key_size a.entry.now) c.in-Ok.i c.requires.b_value c.requires.room (searched a.self.key_size (entries_in a.self.key_size a.n a.b.now) a.entry.now c.requires.len.0 c.key_at.ensures.value c.in-Ok.ensures))

pub overflow_add-i : goal.overflow_add-i
overflow_add-i c = let a = c.args in omega (arith, at-inside a.self.key_size a.n a.b.now (key_in a.self.key_size a.entry.now) c.in-Ok.i c.requires.b_value c.requires.room (searched a.self.key_size (entries_in a.self.key_size a.n a.b.now) a.entry.now c.requires.len.0 c.key_at.ensures.value c.in-Ok.ensures))

pub put-requires : goal.put-requires
put-requires c = let a = c.args in omega (arith, at-inside a.self.key_size a.n a.b.now (key_in a.self.key_size a.entry.now) c.in-Ok.i c.requires.b_value c.requires.room (searched a.self.key_size (entries_in a.self.key_size a.n a.b.now) a.entry.now c.requires.len.0 c.key_at.ensures.value c.in-Ok.ensures), c.requires.len.0)

pub returns-then-self-n : goal.returns-then-self-n
returns-then-self-n c =
    let a = c.args in
    let absent = searched a.self.key_size (entries_in a.self.key_size a.n a.b.now) a.entry.now c.requires.len.0 c.key_at.ensures.value c.in-Err.ensures in
    elim c.then-self-n.branch [
      | then-self-n-via-then-self-n w ↦
          let kept = declare-full a.self.key_size a.self.most a.n a.entry.now a.b.now c.requires.room c.requires.b_value c.requires.len.0 absent w.if-self-n.true in
          record { result_value = kept.0; b_after = kept.1 }
      | then-self-n-via-else-self-n+then-b-end w ↦
          let kept = declare-short a.self.key_size a.self.most a.n a.entry.now a.b.now c.requires.room c.requires.b_value c.requires.len.0 absent w.if-self-n.false w.if-b-end.true in
          record { result_value = kept.0; b_after = kept.1 }
    ]

pub overflow_mul-i-in-Err : goal.overflow_mul-i-in-Err
overflow_mul-i-in-Err c = let a = c.args in omega (arith, absent-inside a.self.key_size a.n a.b.now (key_in a.self.key_size a.entry.now) c.in-Err.i c.requires.b_value c.requires.room (searched a.self.key_size (entries_in a.self.key_size a.n a.b.now) a.entry.now c.requires.len.0 c.key_at.ensures.value c.in-Err.ensures), c.requires.room)

pub overflow_add-i-in-Err : goal.overflow_add-i-in-Err
overflow_add-i-in-Err c = let a = c.args in omega (arith, absent-inside a.self.key_size a.n a.b.now (key_in a.self.key_size a.entry.now) c.in-Err.i c.requires.b_value c.requires.room (searched a.self.key_size (entries_in a.self.key_size a.n a.b.now) a.entry.now c.requires.len.0 c.key_at.ensures.value c.in-Err.ensures), c.requires.room)

pub insert-requires : goal.insert-requires
insert-requires c = let a = c.args in omega (arith, absent-inside a.self.key_size a.n a.b.now (key_in a.self.key_size a.entry.now) c.in-Err.i c.requires.b_value c.requires.room (searched a.self.key_size (entries_in a.self.key_size a.n a.b.now) a.entry.now c.requires.len.0 c.key_at.ensures.value c.in-Err.ensures), c.requires.room, c.requires.len.0)

pub returns-in-Ok : goal.returns-in-Ok
returns-in-Ok c =
    let a = c.args in
    let done = declare-over a.self.key_size a.self.most a.n a.entry.now a.b.now c.requires.room c.requires.b_value c.requires.len.0
    (searched a.self.key_size (entries_in a.self.key_size a.n a.b.now) a.entry.now c.requires.len.0 c.key_at.ensures.value c.in-Ok.ensures) c.put.ensures c.put_length.ensures in
    record { result_value = done.0; b_after = done.1 }

pub returns-else-b-end : goal.returns-else-b-end
returns-else-b-end c =
    let a = c.args in
    let done = declare-in a.self.key_size a.self.most a.n a.entry.now a.b.now c.requires.room c.requires.b_value c.requires.len.0
    (searched a.self.key_size (entries_in a.self.key_size a.n a.b.now) a.entry.now c.requires.len.0 c.key_at.ensures.value c.in-Err.ensures) c.if-self-n.false c.if-b-end.false c.insert.ensures c.put_length-in-Err.ensures in
    record { result_value = done.0; b_after = done.1 }
