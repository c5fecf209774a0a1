-- A word names a message where it reaches it and the row fits.
use Rattle.std.proofs.Common.{◌≡◌, ℕ, Bool, true, false, ◌&&◌, List, Option, Some, None, refl, ap}
use Rattle.std.specs.Option.{option_map_or}
use Rattle.message_state.specs.declared.row.Row.{Row}
use Rattle.message_state.specs.declared.shown.Shown.{Shown}
use Rattle.message_list.specs.declared.list.Kind.{Kind}
use Rattle.message_list.specs.declared.list.Kind.TheVariants.{Number, Range, Next, Previous, Current, First, Last, All, Address, Subject, Letter, Search}
use Rattle.message_list.specs.declared.list.Purpose.{Purpose}
use Rattle.message_list.specs.Places.{row_at, is_for, in_base}
use Rattle.message_list.specs.Naming.{kind_names}
use Rattle.message_list.specs.Marking.{kind_reaches, kind_hit}

both_rows : (f g : Row → Bool) (o : Option Row) → (option_map_or f o false && option_map_or g o false) ≡ option_map_or (λ row. g row && f row) o false
both_rows f g None = refl
both_rows f g (Some row) = and_flips (f row) (g row)
  where
    and_flips : (a b : Bool) → (a && b) ≡ (b && a)
    and_flips true true = refl
    and_flips true false = refl
    and_flips false true = refl
    and_flips false false = refl

any_row : (g : Row → Bool) (o : Option Row) → option_map_or g o false ≡ option_map_or (λ row. g row && true) o false
any_row g None = refl
any_row g (Some row) = and_all (g row)
  where
    and_all : (b : Bool) → b ≡ (b && true)
    and_all true = refl
    and_all false = refl

pub names_by_parts : (kind : Kind) (word : List ℕ) (shown : Shown) (texts : List (List ℕ)) (purpose : Purpose) (n : ℕ)
    → (kind_names kind word shown texts purpose n && in_base shown purpose n) ≡ (kind_reaches shown purpose kind n && kind_hit shown texts purpose kind word n)
names_by_parts Address word shown texts purpose n = both_rows _ (λ row. is_for purpose row.mark) (row_at shown n)
names_by_parts Subject word shown texts purpose n = both_rows _ (λ row. is_for purpose row.mark) (row_at shown n)
names_by_parts (Letter letter) word shown texts purpose n = both_rows _ (λ row. is_for purpose row.mark) (row_at shown n)
names_by_parts (Search key) word shown texts purpose n = both_rows _ (λ row. is_for purpose row.mark) (row_at shown n)
names_by_parts (Number k) word shown texts purpose n = ap (λ (t : Bool). kind_names (Number k) word shown texts purpose n && t) (any_row (λ row. is_for purpose row.mark) (row_at shown n))
names_by_parts (Range a b) word shown texts purpose n = ap (λ (t : Bool). kind_names (Range a b) word shown texts purpose n && t) (any_row (λ row. is_for purpose row.mark) (row_at shown n))
names_by_parts Next word shown texts purpose n = ap (λ (t : Bool). kind_names Next word shown texts purpose n && t) (any_row (λ row. is_for purpose row.mark) (row_at shown n))
names_by_parts Previous word shown texts purpose n = ap (λ (t : Bool). kind_names Previous word shown texts purpose n && t) (any_row (λ row. is_for purpose row.mark) (row_at shown n))
names_by_parts Current word shown texts purpose n = ap (λ (t : Bool). kind_names Current word shown texts purpose n && t) (any_row (λ row. is_for purpose row.mark) (row_at shown n))
names_by_parts First word shown texts purpose n = ap (λ (t : Bool). kind_names First word shown texts purpose n && t) (any_row (λ row. is_for purpose row.mark) (row_at shown n))
names_by_parts Last word shown texts purpose n = ap (λ (t : Bool). kind_names Last word shown texts purpose n && t) (any_row (λ row. is_for purpose row.mark) (row_at shown n))
names_by_parts All word shown texts purpose n = any_row (λ row. is_for purpose row.mark) (row_at shown n)
