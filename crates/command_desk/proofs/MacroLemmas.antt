-- Macros where no definition is under way.
use Rattle.std.proofs.Common.{◌≡◌, List, [], ◌++◌, sym, ap}
use Rattle.std.proofs.lemmas.List.{append-nil}
use Rattle.std.specs.Prelude.{false, is_some}
use Rattle.std.specs.declared.option.Option.{Option}
use Rattle.std.specs.declared.option.Option.TheVariants.{Some, None}
use Rattle.mailx_macros.specs.Macros.{Definitions, Macro, ended}

-- without a definition under way none ends
pub ended_none : (d : Definitions) → is_some d.unfinished ≡ false → d ≡ ended d
ended_none d none = go d.unfinished none (append-nil d.done)
  where
    go : (u : Option Macro) → is_some u ≡ false → d.done ++ [] ≡ d.done → record { done = d.done; unfinished = u } ≡ ended (record { done = d.done; unfinished = u })
    go None h same = ap (λ (l : List Macro). record { done = l; unfinished = None }) (sym same)
    go (Some m) h same = absurd (cc h)
