-- Names that files can have.
use Rattle.std.proofs.Common.{◌≡◌, ◌<◌, ◌≤◌, ◌+◌, ◌==◌, ℕ, suc, Bool, true, false, List, [], ◌∷◌, length, drop, get_or, refl, sym, ap, ◌∙◌, arith, drop-cons, add-one}
use Rattle.std.specs.Prelude.{nat_lt, not, ◌&&◌, ◌||◌}
use Rattle.std.specs.List.{list_any}
use Rattle.std.proofs.lemmas.Bool.{and_parts, leb-true, ltb-true, not-true}
use Rattle.host_port.specs.Names.{IsFileName, has_no_zero}
use Rattle.mailx_vars.specs.Names.{is_short, is_short_name}
use Rattle.std.specs.Option.{option_or}
use Rattle.std.specs.declared.option.Option.{Option}
use Rattle.std.specs.declared.option.Option.TheVariants.{Some, None}
use Rattle.std.proofs.lemmas.List.{drop_all}
use Rattle.folder_change.specs.declared.change.Change.{Change}
use Rattle.folder_change.specs.Changes.{name_of}
use Rattle.session_state.specs.declared.state.SessionState.{SessionState}
use Rattle.session_state.specs.Saving.{name_fault, names_fault}

abbrev is-zero : ℕ → Bool
is-zero b = b == 0

no-zero : (name : List ℕ) → list_any is-zero name ≡ false → has_no_zero name ≡ true
no-zero [] h = refl
no-zero (b ∷ bs) h = go (b == 0) h (no-zero bs)
  where
    go : (t : Bool) → (t || list_any is-zero bs) ≡ false → (list_any is-zero bs ≡ false → has_no_zero bs ≡ true) → (not t && has_no_zero bs) ≡ true
    go true h more = absurd (cc h)
    go false h more = more h

-- a name of at most 4,000 bytes, none of them zero
pub record IsShort (name : List ℕ) : Type 0 where
  pub some : 0 < length name
  pub short : length name ≤ 4000
  pub no_zero : has_no_zero name ≡ true

pub short-name : (name : List ℕ) → is_short_name name ≡ true → IsShort name
short-name name h =
    let p = and_parts (is_short name) _ h in
    let q = and_parts (nat_lt 0 (length name)) _ p.0 in
    record {
      some = ltb-true 0 (length name) q.0;
      short = leb-true (length name) 4000 q.1;
      no_zero = no-zero name (not-true (list_any is-zero name) p.1);
    }

pub file-name : (name : List ℕ) → is_short_name name ≡ true → IsFileName name
file-name name h =
    let is = short-name name h in
    record { some = is.some; short = below (length name) is.short; no_zero = is.no_zero }
  where
    below : (n : ℕ) → n ≤ 4000 → n ≤ 4032
    below n h = omega arith

-- the changes from a place on
from-place : (s : SessionState) (cs : List Change) (i : ℕ) (d c : Change) → i < length cs → get_or cs i d ≡ c
    → names_fault s (drop i cs) ≡ option_or (name_fault s (name_of c)) (names_fault s (drop (i + 1) cs))
from-place s cs i d c within is =
    ap (names_fault s) (drop-cons cs i d within)
    ∙ (ap (λ (b : Change). option_or (name_fault s (name_of b)) (names_fault s (drop (suc i) cs))) is
    ∙ ap (λ (j : ℕ). option_or (name_fault s (name_of c)) (names_fault s (drop j cs))) (sym (add-one i)))

pub fault-here : (s : SessionState) (cs : List Change) (i : ℕ) (d c : Change) (line : List ℕ) → i < length cs → get_or cs i d ≡ c
    → name_fault s (name_of c) ≡ Some line → names_fault s (drop i cs) ≡ Some line
fault-here s cs i d c line within is fault =
    from-place s cs i d c within is ∙ ap (λ (o : Option (List ℕ)). option_or o (names_fault s (drop (i + 1) cs))) fault

pub fault-later : (s : SessionState) (cs : List Change) (i : ℕ) (d c : Change) → i < length cs → get_or cs i d ≡ c
    → name_fault s (name_of c) ≡ None → names_fault s (drop i cs) ≡ names_fault s (drop (i + 1) cs)
fault-later s cs i d c within is fault =
    from-place s cs i d c within is ∙ ap (λ (o : Option (List ℕ)). option_or o (names_fault s (drop (i + 1) cs))) fault

pub fault-nowhere : (s : SessionState) (cs : List Change) (i : ℕ) → length cs ≤ i → names_fault s (drop i cs) ≡ None
fault-nowhere s cs i past = ap (names_fault s) (drop_all i cs past)
