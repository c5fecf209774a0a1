-- The name of a right begins with its actor's.
use Rattle.std.proofs.Common.{◌≡◌, ℕ, true, false, List, length, take, drop, codes, refl}
use Rattle.std.specs.Str.{bytes_eq}
use Rattle.commit_machine.specs.Names.{right_name}
use Rattle.commit_machine.proofs.records.Names.{name_parts}

pub by_front : (actor n end : List ℕ) → bytes_eq (take (length actor) n) actor ≡ true → end ≡ drop (length actor) n → bytes_eq end (codes ".right") ≡ bytes_eq n (right_name actor)
unfolding right_name
by_front actor n end front is = rw (name_parts actor (codes ".right") n, front, is) refl

pub other_front : (actor n : List ℕ) → bytes_eq (take (length actor) n) actor ≡ false → false ≡ bytes_eq n (right_name actor)
unfolding right_name
other_front actor n front = rw (name_parts actor (codes ".right") n, front) refl
