use Rattle.std.proofs.Common.{◌≡◌, ◌≢◌, ◌++◌, ◌<◌, ◌∷◌, [], ℕ, suc, List, length, take, drop, get_or, false, sym, ap, subst, ◌∙◌, arith}
use Rattle.std.specs.Prelude.{OnOk}
use Rattle.std.proofs.lemmas.Bool.{eqb-true, eq-eqb}
use Rattle.std.proofs.lemmas.List.{append-nil, take-append-drop, get_or-take}
use Rattle.std.proofs.Math.Seq.{drop-cons}
use Rattle.mail_addresses.specs.Forms.{unescaped}
use Rattle.mail_addresses.proofs.NameLemmas.{unescaped-run, unescaped-nil, unescaped-step}
use Rattle.mail_addresses.proofs.scan.push_unescaped.Goals as goal

pub push_taken-requires : goal.push_taken-requires
push_taken-requires c =
    let rest : List ℕ = c.loop-at.rest.now in
    let at : ℕ = c.in-Some.at in
    let found = c.in-Some.ensures in
    (drop (suc at) rest, c.split_at.ensures.back ∙ drop-cons rest at 0 found.0.high ∙ ap (λ (b : ℕ). b ∷ drop (suc at) rest) (eqb-true _ _ found.1))

pub loop-at-preserved : goal.loop-at-preserved
loop-at-preserved c =
    let rest : List ℕ = c.loop-at.rest.now in
    let at : ℕ = c.in-Some.at in
    let found = c.in-Some.ensures in
    let run : List ℕ = c.split_at.result.0.now in
    let pair : List ℕ = c.split_at.result.1.now in
    let front : run ≡ take at rest = c.split_at.ensures.front in
    let back : pair ≡ drop at rest = c.split_at.ensures.back in
    let cut : rest ≡ run ++ pair = sym (ap (λ (l : List ℕ). l ++ pair) front ∙ ap (λ (l : List ℕ). take at rest ++ l) back ∙ take-append-drop at rest) in
    let plain : (k : ℕ) → k < length run → get_or run k 0 ≢ 92 =
    λ k l e. found.0.before k (omega arith) (omega arith) (eq-eqb _ _ (sym (ap (λ (xs : List ℕ). get_or xs k 0) front ∙ get_or-take at rest k 0 (omega arith)) ∙ e)) in
    unescaped-step c.loop-at.out c.push.new.self c.push_taken.new.out run pair rest c.in_ok-rest.rest.now _ c.in_ok-push.ensures.ok cut plain c.in_ok-rest.ensures.text c.loop-at.invariant

pub returns : goal.returns
returns c =
    let rest : List ℕ = c.loop-at.rest.now in
    let plain : (k : ℕ) → k < length rest → get_or rest k 0 ≢ 92 = λ k l e. c.in_default.ensures k (omega arith) l (eq-eqb _ _ e) in
    let same : unescaped false rest ≡ rest =
    ap (unescaped false) (sym (append-nil rest)) ∙ unescaped-run rest [] plain ∙ ap (λ (l : List ℕ). rest ++ l) unescaped-nil ∙ append-nil rest in
    let whole : c.loop-at.out ++ rest ≡ c.args.out.now ++ unescaped false c.args.inside.now = ap (λ (l : List ℕ). c.loop-at.out ++ l) (sym same) ∙ c.loop-at.invariant in
    subst (λ (l : List ℕ). OnOk c.push-2.result (c.push-2.new.self ≡ l)) whole c.push-2.ensures.ok
