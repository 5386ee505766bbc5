-- The refusals in document 01's order, each by its law over the frame.
use Rattle.std.proofs.Common.{ap, sym, refl, true, false, ◌∙◌, ◌≡◌, arith, drop}
use Rattle.rules.specs.Refusals.{Gives}
use Rattle.rules.proofs.OnBook.PieceLaws.{piece-count}
use Rattle.rules.proofs.OnBook.FrameLaws.{short, none_said, over, past_end, version-not, uneven, cut_up}
use Rattle.frame.specs.Views.{frame_of}
use Rattle.frame.proofs.Counts.{counted-by}
use Rattle.frame.proofs.Frame.pieces_in.Goals as goal
use Rattle.frame.proofs.Frame.pieces_in.Goals.{then-said-lt1-via-then-said-lt1, then-said-lt1-via-else-said-lt1+then-self-said, then-said-lt1-via-else-said-lt1+else-self-said+then-b-said}

pub returns-then-b-lt-HEAD_SIZE : goal.returns-then-b-lt-HEAD_SIZE
returns-then-b-lt-HEAD_SIZE c =
    let f = c.args.self in
    let frame = frame_of f.size f.most f.version in
    sym (counted-by frame _ (short frame _ c.if-b-lt-HEAD_SIZE.true))

pub returns-then-said-lt1 : goal.returns-then-said-lt1
returns-then-said-lt1 c =
    let f = c.args.self in
    let s = c.args.b.now in
    let frame = frame_of f.size f.most f.version in
    let said = c.length_said-said.ensures in
    elim c.then-said-lt1.branch [
      | then-said-lt1-via-then-said-lt1 w ↦ sym (counted-by frame s (none_said frame s said (omega arith) (omega arith)))
      | then-said-lt1-via-else-said-lt1+then-self-said w ↦
          sym (counted-by frame s (over frame s said (omega arith) (omega arith) (omega arith)))
      | then-said-lt1-via-else-said-lt1+else-self-said+then-b-said w ↦
          sym (counted-by frame s (past_end frame s said (omega arith) (omega arith) (omega arith) (omega arith)))
    ]

pub returns-then-b-self : goal.returns-then-b-self
returns-then-b-self c =
    let f = c.args.self in
    let s = c.args.b.now in
    let frame = frame_of f.size f.most f.version in
    sym (counted-by frame s (version-not frame s c.length_said-said.ensures (omega arith) (omega arith) (omega arith) (omega arith) c.if-b-self.true))

pub returns-then-not-is_multiple_of : goal.returns-then-not-is_multiple_of
returns-then-not-is_multiple_of c =
    let f = c.args.self in
    let s = c.args.b.now in
    let frame = frame_of f.size f.most f.version in
    let said = c.length_said-said.ensures in
    sym (counted-by frame s (uneven frame s said (omega arith) (omega arith) (omega arith) (omega arith) (omega arith)
    (λ z. let no : false ≡ true = c.if-not-is_multiple_of.ensures.1 z in cc)))

pub returns : goal.returns
returns c =
    let f = c.args.self in
    let s = c.args.b.now in
    let frame = frame_of f.size f.most f.version in
    let said = c.length_said-said.ensures in
    sym (counted-by frame s (cut_up frame s said (omega arith) (omega arith) (omega arith) (omega arith) (omega arith)
    (c.if-not-is_multiple_of.ensures.0 refl)) ∙ ap Gives (piece-count _ f.size (drop 5 s)))
