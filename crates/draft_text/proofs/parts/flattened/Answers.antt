use Rattle.std.proofs.Common.{◌≡◌, ℕ, List, map, ap, sym, subst}
use Rattle.std.specs.Prelude.{All}
use Rattle.mail_text.specs.Lines.{HasNoFeed}
use Rattle.draft_text.specs.Texts.{flat}
use Rattle.draft_text.proofs.FlatLemmas.{flat-apart, all-apart}
use Rattle.draft_text.proofs.parts.flattened.Goals as goal

-- a part that is a text, or texts, made flat
one : (made part : List ℕ) → made ≡ flat part → HasNoFeed made
one made part is = subst HasNoFeed (sym is) (flat-apart part)

each : (made parts : List (List ℕ)) → made ≡ map flat parts → All HasNoFeed made
each made parts is = subst (λ (texts : List (List ℕ)). All HasNoFeed texts) (sym is) (all-apart parts)

abbrev Lists : Type 0
Lists = List (List ℕ) × List (List ℕ)

abbrev Both : Type 0
Both = List ℕ × List ℕ

pub returns-clause-parts : goal.returns-clause-parts
returns-clause-parts c = record {
  to = each _ _ (ap (λ (b : Lists). b.0) c.in_ok-named.ensures);
  cc = each _ _ (ap (λ (b : Lists). b.1) c.in_ok-named.ensures);
  bcc = each _ _ (ap (λ (b : Lists). b.0) c.in_ok-unseen.ensures);
  subject = one _ _ (ap (λ (b : Both). b.0) c.in_ok-lines.ensures);
  from = one _ _ (ap (λ (b : Both). b.1) c.in_ok-lines.ensures);
  reply = one _ _ c.in_ok-reply.ensures;
  references = each _ _ (ap (λ (b : Lists). b.1) c.in_ok-unseen.ensures);
}
