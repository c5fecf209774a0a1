use Rattle.std.proofs.Common.{◌∙◌, sym, ap, Ok, Some, option_copied, List, ℕ, ◌++◌}
use Rattle.std.proofs.lemmas.Result.{err_from_is_err_and}
use Rattle.mbox_scan.specs.Mailbox.{texts_of, join}
use Rattle.folder_change.specs.Outcomes.{base_list, missing_feeds}
use Rattle.folder_change.proofs.OutcomeLemmas.{ok-same, err-same, outcome-rewrite, outcome-add, outcome-front, outcome-add_raw, memory-explains}
use Rattle.folder_change.proofs.writing.outcome.Goals as goal

pub returns-in-Rewrite-clause-ok : goal.returns-in-Rewrite-clause-ok
returns-in-Rewrite-clause-ok c =
    let o = outcome-rewrite (option_copied c.args.current) c.args.change.now c.in-Rewrite.name c.in-Rewrite.list c.items.result.now
    (base_list (option_copied c.args.base)) (texts_of c.unwrap.result.now)
    c.in-Rewrite.keep c.current_bytes-bytes.result.now c.in-Rewrite.is c.current_bytes-bytes.ensures c.items.ensures (ap (λ b. base_list (option_copied b)) c.unwrap.ensures) in
    ok-same c.rewrite.result _ _ o c.rewrite.ensures.ok

pub returns-in-Rewrite-clause-err : goal.returns-in-Rewrite-clause-err
returns-in-Rewrite-clause-err c =
    let o = outcome-rewrite (option_copied c.args.current) c.args.change.now c.in-Rewrite.name c.in-Rewrite.list c.items.result.now
    (base_list (option_copied c.args.base)) (texts_of c.unwrap.result.now)
    c.in-Rewrite.keep c.current_bytes-bytes.result.now c.in-Rewrite.is c.current_bytes-bytes.ensures c.items.ensures (ap (λ b. base_list (option_copied b)) c.unwrap.ensures) in
    err-same c.rewrite.result _ _ o c.rewrite.ensures.err

pub returns-in_ok-add-in-Add-clause-ok : goal.returns-in_ok-add-in-Add-clause-ok
returns-in_ok-add-in-Add-clause-ok c =
    let b = c.current_bytes-bytes.result.now in
    outcome-add (option_copied c.args.current) c.args.change.now (base_list (option_copied c.args.base)) c.in-Add.name c.in-Add.texts b c.in-Add.is c.current_bytes-bytes.ensures
    ∙ ap (λ (t : List (List ℕ)). Ok (Some (b ++ missing_feeds b ++ join t))) (sym c.items-in-Add.ensures)
    ∙ ap (λ (l : List ℕ). Ok (Some l)) (sym c.in_ok-add-in-Add.ensures)

pub returns-in_err-add-in-Add-clause-err : goal.returns-in_err-add-in-Add-clause-err
returns-in_err-add-in-Add-clause-err c =
    let p = err_from_is_err_and c.from_residual.result c.from_residual.ensures.1 in
    memory-explains c.from_residual.result _ _ p
    (outcome-add (option_copied c.args.current) c.args.change.now
    (base_list (option_copied c.args.base)) c.in-Add.name c.in-Add.texts c.current_bytes-bytes.result.now c.in-Add.is c.current_bytes-bytes.ensures)

pub returns-in_ok-front-in-Front-clause-ok : goal.returns-in_ok-front-in-Front-clause-ok
returns-in_ok-front-in-Front-clause-ok c =
    let b = c.current_bytes-bytes.result.now in
    outcome-front (option_copied c.args.current) c.args.change.now (base_list (option_copied c.args.base)) c.in-Front.name c.in-Front.texts b c.in-Front.is c.current_bytes-bytes.ensures
    ∙ ap (λ (t : List (List ℕ)). Ok (Some (join t ++ b))) (sym c.items-in-Front.ensures)
    ∙ ap (λ (l : List ℕ). Ok (Some l)) (sym c.in_ok-front-in-Front.ensures)

pub returns-in_err-front-in-Front-clause-err : goal.returns-in_err-front-in-Front-clause-err
returns-in_err-front-in-Front-clause-err c =
    let p = err_from_is_err_and c.from_residual-in_err-front-in-Front.result c.from_residual-in_err-front-in-Front.ensures.1 in
    memory-explains c.from_residual-in_err-front-in-Front.result _ _ p
    (outcome-front (option_copied c.args.current) c.args.change.now
    (base_list (option_copied c.args.base)) c.in-Front.name c.in-Front.texts c.current_bytes-bytes.result.now c.in-Front.is c.current_bytes-bytes.ensures)

pub returns-in_ok-add_raw-in-AddRaw-clause-ok : goal.returns-in_ok-add_raw-in-AddRaw-clause-ok
returns-in_ok-add_raw-in-AddRaw-clause-ok c =
    let b = c.current_bytes-bytes.result.now in
    outcome-add_raw (option_copied c.args.current) c.args.change.now (base_list (option_copied c.args.base)) c.in-AddRaw.name c.in-AddRaw.raw b c.in-AddRaw.is c.current_bytes-bytes.ensures
    ∙ ap (λ (t : List ℕ). Ok (Some (b ++ t))) (sym c.bytes.ensures)
    ∙ ap (λ (l : List ℕ). Ok (Some l)) (sym c.in_ok-add_raw-in-AddRaw.ensures)

pub returns-in_err-add_raw-in-AddRaw-clause-err : goal.returns-in_err-add_raw-in-AddRaw-clause-err
returns-in_err-add_raw-in-AddRaw-clause-err c =
    let p = err_from_is_err_and c.from_residual-in_err-add_raw-in-AddRaw.result c.from_residual-in_err-add_raw-in-AddRaw.ensures.1 in
    memory-explains c.from_residual-in_err-add_raw-in-AddRaw.result _ _ p
    (outcome-add_raw (option_copied c.args.current) c.args.change.now
    (base_list (option_copied c.args.base)) c.in-AddRaw.name c.in-AddRaw.raw c.current_bytes-bytes.result.now c.in-AddRaw.is c.current_bytes-bytes.ensures)
