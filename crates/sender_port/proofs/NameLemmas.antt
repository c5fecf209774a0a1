-- Names that mail can be sent to are plain words.
use Rattle.std.proofs.Common.{◌≡◌, ℕ, Bool, true, false, List, [], ◌∷◌, refl, sym, true≢false, arith}
use Rattle.std.specs.Prelude.{◌==◌, length, not, option_map, if◌then◌else◌}
use Rattle.std.proofs.lemmas.Bool.{and_parts, not-true}
use Rattle.std.specs.declared.option.Option.{Option}
use Rattle.std.specs.declared.option.Option.TheVariants.{Some, None}
use Rattle.std.specs.List.{list_all, AllByRecursion}
use Rattle.mailx_vars.specs.Names.{is_graphic}
use Rattle.sender_port.specs.declared.error.NamesFault.{NamesFault}
use Rattle.sender_port.specs.declared.error.NamesFault.TheVariants.{NoRecipients, NotAnAddress}
use Rattle.sender_port.specs.Names.{begins_with_dash, is_address, first_bad, names_fault, IsPlainName}

plain : (name : List ℕ) → is_address name ≡ true → IsPlainName name
plain [] h = absurd (true≢false (sym h))
plain (b ∷ bs) h =
    let parts = and_parts (not (begins_with_dash (b ∷ bs))) (list_all is_graphic (b ∷ bs)) h in
    record { some = omega arith; no_flag = not-true (begins_with_dash (b ∷ bs)) parts.0; one_word = parts.1 }

-- where no name is found that is no address, each is plain
found-none : (names : List (List ℕ)) → first_bad names ≡ None → AllByRecursion IsPlainName names
found-none [] h = tt
found-none (name ∷ names) h = go (is_address name) refl (found-none names) h
  where
    go : (b : Bool) → is_address name ≡ b → (first_bad names ≡ None → AllByRecursion IsPlainName names)
        → (if not b then Some name else first_bad names) ≡ None → AllByRecursion IsPlainName (name ∷ names)
    go true same rest h = (plain name same, rest h)
    go false same rest h = absurd (cc h)

no-fault : (found : Option (List ℕ)) → option_map NotAnAddress found ≡ None → found ≡ None
no-fault None h = refl
no-fault (Some name) h = absurd (cc h)

some-names : (b : Bool) (fault : Option NamesFault) → (if b then Some NoRecipients else fault) ≡ None → fault ≡ None
some-names true fault h = absurd (cc h)
some-names false fault h = h

pub names-plain : (names : List (List ℕ)) → names_fault names ≡ None → AllByRecursion IsPlainName names
names-plain names h = found-none names (no-fault (first_bad names) (some-names (length names == 0) (option_map NotAnAddress (first_bad names)) h))
