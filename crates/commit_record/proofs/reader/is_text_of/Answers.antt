use Rattle.std.proofs.Common.{◌≡◌, ◌∙◌, sym, ap, arith}
use Rattle.std.proofs.lemmas.Slice.Eq.{bytes_eq-Decides}
use Rattle.std.specs.List.{list_all}
use Rattle.std.specs.Str.{bytes_eq}
use Rattle.commit_record.specs.Format.{fits_number}
use Rattle.commit_record.proofs.reader.is_text_of.Goals as goal

pub returns : goal.returns
returns c =
    let bytes = c.args.bytes.now in
    let text = c.in_ok-text.text in
    let eq : c.is_same.result ≡ bytes_eq text bytes = c.is_same.ensures in
    let decides = bytes_eq-Decides text bytes in (
      λ is. record {
        valid = sym c.is_valid.ensures ∙ c.if-not-is_valid.false;
        token_fits = omega arith;
        numbers_fit =
            ap (list_all fits_number) (sym c.items.ensures) ∙ sym c.fit_numbers.ensures ∙ c.if-not-fit_numbers.false;
        is = sym (decides.0 (sym eq ∙ is)) ∙ c.in_ok-text.ensures;
      },
      λ w. eq ∙ decides.1 (c.in_ok-text.ensures ∙ sym w.is),
    )
