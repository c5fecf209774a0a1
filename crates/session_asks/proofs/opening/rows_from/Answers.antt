use Rattle.std.proofs.Common.{◌≡◌, ◌≤◌, ◌+◌, ◌++◌, ◌∷◌, [], ℕ, List, length, take, drop, sym, ap, ◌∙◌, subst, arith}
use Rattle.std.specs.Prelude.{All, IfSome}
use Rattle.std.proofs.lemmas.Slice.Zip.{AllZip-long}
use Rattle.std.proofs.lemmas.List.{length-take, length-take-le, length-drop}
use Rattle.std.proofs.lemmas.List.Elements.{All-push}
use Rattle.mail_dates.specs.Clock.{IsInYears}
use Rattle.mbox_scan.specs.Mailbox.{texts_of}
use Rattle.message_state.specs.declared.row.Row.{Row}
use Rattle.message_state.specs.Rows.{IsRow}
use Rattle.session_play.specs.Knowing.{AreRows}
use Rattle.session_asks.proofs.OpeningLemmas.{zip-push, drop-behind}
use Rattle.session_asks.proofs.opening.rows_from.Goals as goal

pub loop-k-preserved : goal.loop-k-preserved
loop-k-preserved c =
    let texts = texts_of c.args.folder.now in
    let row = c.in_ok-row_of.field-0 in
    let rows = c.loop-k.rows in
    let k = c.loop-k.k in
    let first = c.args.first in
    let is : IsRow c.message.result row = subst (λ (t : List ℕ). IsRow t row) c.text.ensures c.in_ok-row_of.ensures.row in
    let more : AreRows (drop first (take k texts) ++ c.message.result ∷ []) (rows ++ row ∷ []) = zip-push IsRow (drop first (take k texts)) rows c.message.result row c.loop-k.invariant.rows is in
    let years : All (λ (row : Row). IfSome row.moment IsInYears) (rows ++ row ∷ []) =
    All-push (λ (row : Row). IfSome row.moment IsInYears) rows row c.loop-k.invariant.years c.in_ok-row_of.ensures.years in
    let behind : first ≤ k = c.loop-k.invariant.behind in
    let long : length (take k texts) ≡ k = length-take-le k texts (let test = c.loop-k-test.true in let count = c.count-k-end.ensures.count in omega (arith, test, count)) in
    let within : first ≤ length (take k texts) = omega (arith, behind, long) in
    let front : drop first (take k texts) ++ c.message.result ∷ [] ≡ drop first (take (k + 1) texts) =
    sym (ap (drop first) c.message.ensures.front ∙ drop-behind first (take k texts) (c.message.result ∷ []) within) in
    record {
      rows = subst (λ (l : List Row). AreRows (drop first (take (k + 1) texts)) l) (sym c.in_ok-push.ensures.ok) (subst (λ (ts : List (List ℕ)). AreRows ts (rows ++ row ∷ [])) front more);
      years = subst (All (λ (row : Row). IfSome row.moment IsInYears)) (sym c.in_ok-push.ensures.ok) years;
      behind = omega (arith, behind);
    }

pub returns-clause-few : goal.returns-clause-few
returns-clause-few c =
    let texts = texts_of c.args.folder.now in
    let long = AllZip-long IsRow (drop c.args.first (take c.loop-k.k texts)) c.loop-k.rows c.loop-k.invariant.rows in
    let dropped = length-drop c.args.first (take c.loop-k.k texts) in
    let within = length-take c.loop-k.k texts in
    let few = c.count-k-end.ensures.few in
    let count = c.count-k-end.ensures.count in
    let first = c.requires in
    omega arith
