-- Changes of variables that are far from the most that can be set.
use Rattle.std.proofs.Common.{◌≡◌, ◌≤◌, ◌<◌, ◌+◌, ℕ, List, [], ◌∷◌, refl, sym, ap, ◌∙◌, true, false, Bool, ⊎_elim, ◌⊎◌, inl, inr, arith, length, length-append}
use Rattle.std.specs.Prelude.{not, ◌&&◌, ◌||◌, ◌-◌, nat_le, is_none, if◌then◌else◌}
use Rattle.std.specs.Option.{option_or, option_map}
use Rattle.std.specs.declared.option.Option.{Option}
use Rattle.std.specs.declared.option.Option.TheVariants.{Some, None}
use Rattle.std.proofs.lemmas.Bool.{cases_Bool, cond-true, cond-false, leb-true, leb-false}
use Rattle.std.proofs.lemmas.Map.{length-set_value}
use Rattle.std.specs.Str.{bytes_eq}
use Rattle.mailx_vars.specs.declared.settings.Setting.{Setting}
use Rattle.mailx_vars.specs.declared.error.VarError.TheVariants.{BadName, TooMany}
use Rattle.mailx_vars.specs.Names.{is_variable_name}
use Rattle.mailx_vars.specs.Settings.{Settings, is_set, refusal, with_value}
use Rattle.mailx_vars.specs.Changes.{changed, with_or_without}
use Rattle.mailx_vars.proofs.PairLemmas.{without-length}
use Rattle.desk_commands.specs.Setting.{refusal_line, line_of_change, first_refusal, first_apart, are_few}

not-full : (vars : Settings) → length vars < 1000 → nat_le 1000 (length vars) ≡ false
not-full vars few = ⊎_elim (λ t. absurd (let le = leb-true _ _ t in omega arith)) (λ f. f) (cases_Bool (nat_le 1000 (length vars)))

-- where fewer than the most are set, a name alone is refused
far-refusal : (vars : Settings) (name : List ℕ) → length vars < 1000 → refusal vars name ≡ (if not (is_variable_name name) then Some BadName else None)
far-refusal vars name few = ap (λ (b : Bool). if not (is_variable_name name) then Some BadName else if b then Some TooMany else None)
    (ap (λ (b : Bool). not (is_set vars name) && b) (not-full vars few) ∙ and-false (not (is_set vars name)))
  where
    and-false : (b : Bool) → (b && false) ≡ false
    and-false true = refl
    and-false false = refl

same-line : (vars base : Settings) (name : List ℕ) (value : Option (List ℕ)) → length vars < 1000 → length base < 1000 → line_of_change vars name value ≡ line_of_change base name value
same-line vars base name (Some value) few small = ap (option_map (refusal_line name)) (far-refusal vars name few ∙ sym (far-refusal base name small))
same-line vars base name None few small = refl

set-length : (vars : Settings) (name value : List ℕ) → length (with_value vars name value) ≤ length vars + 1
set-length vars name value =
    ⊎_elim
    (λ t. let e : length (with_value vars name value) ≡ length vars = ap length (cond-true _ _ _ t) ∙ length-set_value (bytes_eq name) vars value in omega arith)
    (λ f. let e : length (with_value vars name value) ≡ length vars + 1 = ap length (cond-false _ _ _ f) ∙ length-append vars ((name, value) ∷ []) in omega arith)
    (cases_Bool (is_set vars name))

-- a change makes one variable more at most
change-length : (vars : Settings) (name : List ℕ) (value : Option (List ℕ)) → length (with_or_without vars name value) ≤ length vars + 1
change-length vars name (Some value) =
    ⊎_elim
    (λ t. let e : length (with_or_without vars name (Some value)) ≡ length (with_value vars name value) = ap length (cond-true _ _ _ t) in let more = set-length vars name value in omega arith)
    (λ f. let e : length (with_or_without vars name (Some value)) ≡ length vars = ap length (cond-false _ _ _ f) in omega arith)
    (cases_Bool (is_none (refusal vars name)))
change-length vars name None = let less = without-length vars name in omega arith

far-apart : (vars base : Settings) (ss : List Setting) → length vars + length ss ≤ 1000 → length base + length ss ≤ 1000 → first_apart base ss ≡ first_refusal vars ss
far-apart vars base [] few small = refl
far-apart vars base (s ∷ ss) few small =
    let more = change-length vars s.name s.value in
    ap (λ o. option_or o (first_apart base ss)) (same-line base vars s.name s.value (omega arith) (omega arith))
    ∙ ap (option_or (line_of_change vars s.name s.value)) (far-apart (changed vars s) base ss (omega arith) (omega arith))

few-of : (v s : ℕ) → (nat_le s 1 || nat_le s (1000 - v)) ≡ true → (s ≤ 1) ⊎ (v + s ≤ 1000)
few-of v s is =
    ⊎_elim
    (λ t. inl (leb-true s 1 t))
    (λ f.
    let more = leb-false s 1 f in
    let less = leb-true s (1000 - v) (sym (ap (λ (b : Bool). b || nat_le s (1000 - v)) f) ∙ is) in
    inr (omega arith))
    (cases_Bool (nat_le s 1))

apart-few : (vars : Settings) (ss : List Setting) → (length ss ≤ 1) ⊎ (length vars + length ss ≤ 1000) → first_apart vars ss ≡ first_refusal vars ss
apart-few vars ss (inr few) = far-apart vars vars ss few few
apart-few vars [] (inl one) = refl
apart-few vars (s ∷ []) (inl one) = refl
apart-few vars (s ∷ t ∷ ss) (inl one) = absurd (omega arith)

-- few changes can each be looked at alone
pub apart_few : (vars : Settings) (ss : List Setting) → are_few vars ss ≡ true → first_apart vars ss ≡ first_refusal vars ss
apart_few vars ss few = apart-few vars ss (few-of (length vars) (length ss) few)
