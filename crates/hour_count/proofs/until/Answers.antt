-- `hour_count::until` meets its contract: two dates of the kind, where the kind counts in such blocks, have a difference.
-- Assumes nothing.
use Rattle.std.proofs.Common.{rules, sym, ap, ◌∙◌, w32, to_z-of_z}
use Rattle.rules.specs.Refusals.{Gives}
use Rattle.rules.proofs.OnKinds.PackLaws.{lacking}
use Rattle.requests.specs.Hours.{count_between}
use Rattle.kinds.specs.Views.{kind_of, opened_as}
use Rattle.hour_count.proofs.Laws.{block-some, on-hour}
use Rattle.hour_count.proofs.until.Goals as goal

pub between-requires : goal.between-requires
between-requires c =
    let t = sym c.counts_in.ensures ∙ c.if-counts_in.true in let b = c.args.block in let k = kind_of c.args.kind in
    (on-hour b k _ _ (sym c.unpack.ensures ∙ ap opened_as c.in_ok-from.was) t, on-hour b k _ _ (sym c.unpack-then-counts_in.ensures ∙ ap opened_as c.in_ok-to.was) t, block-some b k t)

pub returns-then-counts_in : goal.returns-then-counts_in
unfolding count_between
returns-then-counts_in c =
    rw (sym c.unpack.ensures ∙ ap opened_as c.in_ok-from.was, sym c.unpack-then-counts_in.ensures ∙ ap opened_as c.in_ok-to.was, sym c.counts_in.ensures ∙ c.if-counts_in.true)
    (ap Gives (to_z-of_z {w = w32} (search rules) ∙ c.between.ensures))

pub returns : goal.returns
unfolding count_between
returns c = rw (sym c.counts_in.ensures ∙ c.if-counts_in.false, lacking _ _, lacking _ _)
