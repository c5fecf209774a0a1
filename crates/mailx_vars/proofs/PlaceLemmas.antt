-- Places that agree in each part.
use Rattle.std.proofs.Common.{◌≡◌, List, [], ◌∷◌, ℕ, ◌∙◌, refl, Bool, true, false, option_map}
use Rattle.std.specs.Prelude.{if◌then◌else◌}
use Rattle.std.specs.declared.option.Option.TheVariants.{Some}
use Rattle.std.specs.List.{find}
use Rattle.std.specs.Map.{lookup}
use Rattle.std.specs.Str.{bytes_eq}
use Rattle.mailx_vars.specs.Environment.{Pairs, or_default}
use Rattle.mailx_vars.specs.declared.environment.Places.{Places}

pub same-places : (a b : Places) → a.home ≡ b.home → a.user ≡ b.user → a.mail ≡ b.mail → a.rc ≡ b.rc → a.mbox ≡ b.mbox → a.dead ≡ b.dead
    → a.lister ≡ b.lister → a.shell ≡ b.shell → a.editor ≡ b.editor → a.visual ≡ b.visual → a.tz ≡ b.tz → a.width ≡ b.width → a ≡ b
same-places a b home user mail rc mbox dead lister shell editor visual tz width =
    λ j. record {
      home = home j;
      user = user j;
      mail = mail j;
      rc = rc j;
      mbox = mbox j;
      dead = dead j;
      lister = lister j;
      shell = shell j;
      editor =
          editor j;
      visual = visual j;
      tz = tz j;
      width = width j;
    }

-- what stands for a value, once value and default are known
pub same-default : (t v w : List ℕ) (d e : List ℕ) → t ≡ or_default v d → v ≡ w → d ≡ e → t ≡ or_default w e
same-default t v w d e is value default = is ∙ (λ j. or_default (value j) (default j))

-- the value of the first pair of a name
pub first-value : (pairs : Pairs) (name : List ℕ) → option_map (λ (p : List ℕ × List ℕ). p.1) (find (λ p. bytes_eq name p.0) pairs) ≡ lookup (bytes_eq name) pairs
first-value [] name = refl
first-value (p ∷ pairs) name = go (bytes_eq name p.0) (first-value pairs name)
  where
    go : (b : Bool) → option_map (λ (q : List ℕ × List ℕ). q.1) (find (λ q. bytes_eq name q.0) pairs) ≡ lookup (bytes_eq name) pairs
        → option_map (λ (q : List ℕ × List ℕ). q.1) (if b then Some p else find (λ q. bytes_eq name q.0) pairs) ≡ (if b then Some p.1 else lookup (bytes_eq name) pairs)
    go true rest = refl
    go false rest = rest
