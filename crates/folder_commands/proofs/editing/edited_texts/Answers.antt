use Rattle.std.proofs.Common.{ℕ, List, length, ap, arith}
use Rattle.folder_commands.proofs.editing.edited_texts.Goals as goal

pub get_mut-requires : goal.get_mut-requires
get_mut-requires c =
    let long = ap (λ (ts : List (List ℕ)). length ts) c.in_ok-texts.ensures.texts in
    let some = c.requires.some in
    let within = c.requires.within in
    omega (arith, long, some, within)
