-- One record more.
use Rattle.std.proofs.Common.{◌≡◌, [], refl, sym, ap, ◌∙◌, add-one, arith}
use Rattle.rules.specs.Book.{entry_at}
use Rattle.requests.specs.Both.{both}
use Rattle.requests.specs.Gaps.{if_of_kind}
use Rattle.kinds.specs.Views.{kind_of}
use Rattle.gap_report.specs.Views.{tallied_as}
use Rattle.gap_report.specs.Walk.{Tallied, tally}
use Rattle.gap_report.proofs.WalkLaws.{few, sound-at, turn, end, count-more}
use Rattle.gap_report.proofs.tally.walk.Goals as goal

pub overflow_cast-i : goal.overflow_cast-i
overflow_cast-i c = let f = few c.args.b.now c.args.n c.requires in omega arith

pub seen-t-requires-clause-sound : goal.seen-t-requires-clause-sound
seen-t-requires-clause-sound c = rw c.entry.ensures (sound-at c.args.b.now c.loop-i.i)

pub seen-t-requires-clause-count_bound : goal.seen-t-requires-clause-count_bound
seen-t-requires-clause-count_bound c = let f = few c.args.b.now c.args.n c.requires in let g = c.loop-i.invariant.count in omega arith

pub loop-i-preserved : goal.loop-i-preserved
loop-i-preserved c =
    let k = kind_of c.args.kind in
    let l = c.loop-i in
    let x = entry_at (both c.args.b.now) c.args.b.now l.i in
    let seen : tallied_as c.seen-t.result ≡ tally k (tallied_as l.t) (if_of_kind k l.i x []) = rw (← c.entry.ensures) c.seen-t.ensures.result_value in
    let more = count-more k (tallied_as l.t) l.i x in
    let count = ap (λ (u : Tallied). u.count) seen in
    let so_far = l.invariant.count in
    record {
      count = omega arith;
      dated = c.seen-t.ensures.dated_2;
      left = l.invariant.left ∙ turn c.args.b.now c.args.n c.requires k (tallied_as l.t) l.i c.loop-i-test.true ∙ rw (← seen, add-one l.i) refl;
    }

pub returns-clause-result_value : goal.returns-clause-result_value
returns-clause-result_value c =
    let e : c.loop-i.i ≡ c.args.n = omega arith in
    sym (c.loop-i.invariant.left ∙ rw e (end c.args.b.now c.args.n c.requires (kind_of c.args.kind) (tallied_as c.loop-i.t)))
