-- Texts that are put one after the other are cut apart again.
use Rattle.std.proofs.Common.{◌≡◌, ℕ, ◌-◌, List, ◌++◌, length, take, drop, ap, ◌∙◌, arith, append_assoc, length-append}
use Rattle.std.specs.List.{slice_range}
use Rattle.std.proofs.Math.Seq.{take-append_seam, drop-append_seam}
use Rattle.message_state.specs.RowTexts.{Texts, texts_in, AreEnds}

-- what stands between two ends
between-is : (bytes front part back : List ℕ) (i j : ℕ) → bytes ≡ (front ++ part) ++ back → i ≡ length front → j ≡ length (front ++ part) → slice_range bytes i j ≡ part
between-is bytes front part back i j is start end =
    let count : j - i ≡ length part = omega (arith, start, end, length-append front part) in
    let behind : drop i bytes ≡ part ++ back =
    ap (λ (n : ℕ). drop n bytes) start
    ∙ ap (drop (length front)) (is ∙ append_assoc front part back)
    ∙ drop-append_seam front (part ++ back) in
    ap (λ (n : ℕ). take n (drop i bytes)) count ∙ ap (take (length part)) behind ∙ take-append_seam part back

pub texts-same : (x y : Texts) → x.subject ≡ y.subject → x.author ≡ y.author → x.shown_author ≡ y.shown_author → x.to ≡ y.to → x.own_id ≡ y.own_id → x ≡ y
texts-same x y subject author shown to own =
    let made = λ (s a n t o : List ℕ). let texts : Texts = record { subject = s; author = a; shown_author = n; to = t; own_id = o } in texts in
    ap (λ (v : List ℕ). made v x.author x.shown_author x.to x.own_id) subject
    ∙ ap (λ (v : List ℕ). made y.subject v x.shown_author x.to x.own_id) author
    ∙ ap (λ (v : List ℕ). made y.subject y.author v x.to x.own_id) shown
    ∙ ap (λ (v : List ℕ). made y.subject y.author y.shown_author v x.own_id) to
    ∙ ap (λ (v : List ℕ). made y.subject y.author y.shown_author y.to v) own

-- each text is put after those before it, and its end is noted
pub record ArePushed (s a n t o b1 b2 b3 b4 b5 : List ℕ) (i j k l : ℕ) : Type 0 where
  pub first : b1 ≡ s
  pub first_end : i ≡ length b1
  pub second : b2 ≡ b1 ++ a
  pub second_end : j ≡ length b2
  pub third : b3 ≡ b2 ++ n
  pub third_end : k ≡ length b3
  pub fourth : b4 ≡ b3 ++ t
  pub fourth_end : l ≡ length b4
  pub fifth : b5 ≡ b4 ++ o

pub ends-pushed : (s a n t o b1 b2 b3 b4 b5 : List ℕ) (i j k l : ℕ) → ArePushed s a n t o b1 b2 b3 b4 b5 i j k l → AreEnds b5 i j k l
ends-pushed s a n t o b1 b2 b3 b4 b5 i j k l p =
    let two = ap (λ (bs : List ℕ). length bs) p.second ∙ length-append b1 a in
    let three = ap (λ (bs : List ℕ). length bs) p.third ∙ length-append b2 n in
    let four = ap (λ (bs : List ℕ). length bs) p.fourth ∙ length-append b3 t in
    let five = ap (λ (bs : List ℕ). length bs) p.fifth ∙ length-append b4 o in
    record {
      first = omega (arith, p.first_end, p.second_end, two);
      second = omega (arith, p.second_end, p.third_end, three);
      third = omega (arith, p.third_end, p.fourth_end, four);
      within = omega (arith, p.fourth_end, five);
    }

pub texts-pushed : (s a n t o b1 b2 b3 b4 b5 : List ℕ) (i j k l : ℕ) → ArePushed s a n t o b1 b2 b3 b4 b5 i j k l
    → texts_in b5 i j k l ≡ record { subject = s; author = a; shown_author = n; to = t; own_id = o }
texts-pushed s a n t o b1 b2 b3 b4 b5 i j k l p =
    let all : b5 ≡ (b3 ++ t) ++ o = p.fifth ∙ ap (λ (bs : List ℕ). bs ++ o) p.fourth in
    let later : b5 ≡ (b2 ++ n) ++ (t ++ o) = all ∙ append_assoc b3 t o ∙ ap (λ (bs : List ℕ). bs ++ (t ++ o)) p.third in
    let rest : b5 ≡ (b1 ++ a) ++ (n ++ (t ++ o)) = later ∙ append_assoc b2 n (t ++ o) ∙ ap (λ (bs : List ℕ). bs ++ (n ++ (t ++ o))) p.second in
    let whole : b5 ≡ b1 ++ (a ++ (n ++ (t ++ o))) = rest ∙ append_assoc b1 a (n ++ (t ++ o)) in
    texts-same (texts_in b5 i j k l) (record { subject = s; author = a; shown_author = n; to = t; own_id = o })
    (ap (λ (m : ℕ). take m b5) p.first_end ∙ ap (take (length b1)) whole ∙ take-append_seam b1 (a ++ (n ++ (t ++ o))) ∙ p.first)
    (between-is b5 b1 a (n ++ (t ++ o)) i j rest p.first_end (p.second_end ∙ ap (λ (bs : List ℕ). length bs) p.second))
    (between-is b5 b2 n (t ++ o) j k later p.second_end (p.third_end ∙ ap (λ (bs : List ℕ). length bs) p.third))
    (between-is b5 b3 t o k l all p.third_end (p.fourth_end ∙ ap (λ (bs : List ℕ). length bs) p.fourth))
    (ap (λ (m : ℕ). drop m b5) p.fourth_end ∙ ap (drop (length b4)) p.fifth ∙ drop-append_seam b4 o)
