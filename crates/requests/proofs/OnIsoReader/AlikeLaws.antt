-- #105: two dates of a kind have the same exchange text exactly where they are the same in fields, E's two components of one in-game hour
-- aside. The exchange text tells the ISO text, and that the date (#102). Assumes nothing.
use mathlib.Core.Path.{◌≡◌, sym, ap, ◌∙◌}
use mathlib.Core.Logic.{◌↔◌}
use mathlib.Core.Bool.{true}
use mathlib.Core.List.{List}
use Prim.Native.Nat.{ℕ, ◌*◌, ◌/◌}
use native.Mathlib.Omega.{arith}
use Rattle.rules.specs.Refusals.{Gives}
use Rattle.rules.specs.Kinds.{Kind, kR, kD, kH, kU, kE, kV, Fields, with_hour, of_kind, in_game_hour}
use Rattle.rules.specs.Text.{leading}
use Rattle.rules.specs.Spelling.{iso_month_day, iso_hour, iso, exchange}
use Rattle.rules.proofs.OnSpelling.ExchangeLaws.{iso_again, exchange-tells}
use Rattle.requests.specs.IsoReader.{read_iso, iso_back}
use Rattle.requests.proofs.OnIsoReader.IsoLaws.{iso-back}

-- the same in fields, of E with the in-game hour for the hour
abbrev pub Alike : Kind → Fields → Fields → Type 0
Alike kR f g = f ≡ g
Alike kD f g = f ≡ g
Alike kH f g = f ≡ g
Alike kU f g = f ≡ g
Alike kE f g = with_hour f (in_game_hour f.hour) ≡ with_hour g (in_game_hour g.hour)
Alike kV f g = f ≡ g

-- what comes back of the one's ISO text and of the other's is the same
back-alike : (k : Kind) (f g : Fields) → iso_back k f ≡ iso_back k g → Alike k f g
unfolding iso_back
back-alike kR f g e = e
back-alike kD f g e = e
back-alike kH f g e = e
back-alike kU f g e = e
back-alike kE f g e =
    let shown : (h : ℕ) → in_game_hour (h / 2 * 2) ≡ in_game_hour h = λ h. omega arith in
    ap (with_hour f) (sym (shown f.hour)) ∙ ap (λ (d : Fields). with_hour d (in_game_hour d.hour)) e ∙ ap (with_hour g) (shown g.hour)
back-alike kV f g e = e

-- E's text is V's of the in-game hour
alike-exchange : (k : Kind) (f g : Fields) → Alike k f g → exchange k f ≡ exchange k g
unfolding exchange iso_month_day iso_hour
alike-exchange kR f g e = ap (exchange kR) e
alike-exchange kD f g e = ap (exchange kD) e
alike-exchange kH f g e = ap (exchange kH) e
alike-exchange kU f g e = ap (exchange kU) e
alike-exchange kE f g e = ap (exchange kV) e
alike-exchange kV f g e = ap (exchange kV) e

pub exchange-same : (k : Kind) (f g : Fields) → of_kind k f ≡ true → of_kind k g ≡ true → (exchange k f ≡ exchange k g) ↔ Alike k f g
exchange-same k f g p q = (λ e. back-alike k f g (back (texts e)), alike-exchange k f g)
  where
    texts : exchange k f ≡ exchange k g → iso k f ≡ iso k g
    texts e = sym (exchange-tells k f p) ∙ ap (λ (s : List ℕ). iso_again (leading s)) e ∙ exchange-tells k g q

    back : iso k f ≡ iso k g → iso_back k f ≡ iso_back k g
    back e = let read : Gives (iso_back k f) ≡ Gives (iso_back k g) = sym (iso-back k f p) ∙ ap (read_iso k) e ∙ iso-back k g q in cc
