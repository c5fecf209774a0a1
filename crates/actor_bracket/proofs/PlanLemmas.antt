-- Lists of names and of files, one by one.
use Rattle.std.proofs.Common.{◌≡◌, ◌+◌, ◌<◌, ℕ, ℤ, Bool, true, false, List, [], ◌∷◌, ◌++◌, Option, Some, map, length, take, get_or, refl, ap, sym, ◌∙◌, append_assoc, if◌then◌else◌}
use Rattle.std.specs.Str.{bytes_eq}
use Rattle.std.proofs.lemmas.List.{take_more}
use Rattle.host_port.specs.Disk.{with_at}
use Rattle.commit_record.specs.declared.record.Phase.TheVariants.{Go}
use Rattle.commit_record.specs.declared.record.Entry.{Entry}
use Rattle.commit_record.specs.declared.way.Way.{Way}
use Rattle.commit_record.specs.Ways.{entry_for}
use Rattle.commit_machine.specs.Edits.{without}
use Rattle.commit_machine.specs.Items as items
use Rattle.commit_machine.specs.Jobs.{all_of, entries_for, go_of, made_at, moment_of, seen_files, seen_of, way_made}
use Rattle.core_steps.specs.declared.actor.Actor.{Actor}
use Rattle.core_steps.specs.declared.actor.Task.{Task}
use Rattle.core_steps.specs.Tasks.{job_of}
use Rattle.core_steps.specs.declared.change.CoreChange.{CoreChange}
use Rattle.actor_bracket.specs.declared.stand.Made.{Made}
use Rattle.actor_bracket.specs.declared.stand.Item.{Item}
use Rattle.actor_bracket.specs.Stands.{changes_of, item_as, items_as, made_as, mades_as}
use Rattle.actor_bracket.proofs.StandLemmas.{job_token}

without_both : (name : List ℕ) (xs ys : List (List ℕ)) → without name (xs ++ ys) ≡ without name xs ++ without name ys
without_both name [] ys = refl
without_both name (x ∷ xs) ys = by (bytes_eq x name) (without_both name xs ys)
  where
    by : (b : Bool) → without name (xs ++ ys) ≡ without name xs ++ without name ys
        → (if b then without name (xs ++ ys) else x ∷ without name (xs ++ ys)) ≡ (if b then without name xs else x ∷ without name xs) ++ without name ys
    by true e = e
    by false e = ap (λ (zs : List (List ℕ)). x ∷ zs) e

pub without_more : (name : List ℕ) (names : List (List ℕ)) (i : ℕ) (n : List ℕ) (first left now : List (List ℕ)) → i < length names → n ≡ get_or names i n
    → left ≡ first ++ without name (take i names) → now ≡ left ++ without name (n ∷ []) → now ≡ first ++ without name (take (i + 1) names)
without_more name names i n first left now lt is was e =
    e ∙ ap (λ (l : List (List ℕ)). l ++ without name (n ∷ [])) was
    ∙ append_assoc first (without name (take i names)) (without name (n ∷ []))
    ∙ ap (λ (l : List (List ℕ)). first ++ l) (sym (without_both name (take i names) (n ∷ [])) ∙ ap (without name) (sym (take_more names i n lt ∙ ap (λ (x : List ℕ). take i names ++ x ∷ []) (sym is))))

map_both : {A B : Type 0} (f : A → B) (xs ys : List A) → map f (xs ++ ys) ≡ map f xs ++ map f ys
map_both f [] ys = refl
map_both f (x ∷ xs) ys = ap (λ zs. f x ∷ zs) (map_both f xs ys)

pub map_more : {A : Type 0} (f : List ℕ → A) (names : List (List ℕ)) (i : ℕ) (n : List ℕ) (xs now : List A) (x : A) → i < length names → n ≡ get_or names i n
    → xs ≡ map f (take i names) → now ≡ xs ++ x ∷ [] → x ≡ f n → now ≡ map f (take (i + 1) names)
map_more f names i n xs now x lt is was e new =
    e ∙ ap (λ zs. zs ++ x ∷ []) was ∙ ap (λ z. map f (take i names) ++ z ∷ []) new ∙ sym (map_both f (take i names) (n ∷ []))
    ∙ ap (map f) (sym (take_more names i n lt ∙ ap (λ (y : List ℕ). take i names ++ y ∷ []) (sym is)))

files_more : (cs : List CoreChange) (rest : List Made) (x : Made) (old now : List ℕ → Option (List ℕ)) → ((q : List ℕ) → old q ≡ seen_files (mades_as cs rest) q)
    → ((q : List ℕ) → now q ≡ with_at old x.name x.seen q) → (q : List ℕ) → now q ≡ seen_files (mades_as cs (x ∷ rest)) q
files_more cs rest x old now was put q = put q ∙ by (bytes_eq q x.name)
  where
    by : (b : Bool) → (if b then x.seen else old q) ≡ seen_of (if b then Some (made_as cs x) else made_at (mades_as cs rest) q)
    by true = refl
    by false = was q

-- the files as they were loaded, with one more
pub files_next : (made rest : List Made) (x : Made) (old now : List ℕ → Option (List ℕ)) (name : List ℕ) (seen : Option (List ℕ))
    → ((ds : List CoreChange) (q : List ℕ) → old q ≡ seen_files (mades_as ds rest) q) → name ≡ x.name → seen ≡ x.seen
    → ((q : List ℕ) → now q ≡ with_at old name seen q) → made ≡ x ∷ rest → (cs : List CoreChange) (q : List ℕ) → now q ≡ seen_files (mades_as cs made) q
files_next made rest x old now name seen was named saw put is cs q =
    files_more cs rest x old now (was cs) (λ n. put n ∙ ap (λ (m : List ℕ). with_at old m seen n) named ∙ ap (λ (f : Option (List ℕ)). with_at old x.name f n) saw) q
    ∙ ap (λ (ms : List Made). seen_files (mades_as cs ms) q) (sym is)

-- the files of a bracket, with one more
pub items_more : (f : List ℕ → items.Item) (names : List (List ℕ)) (i : ℕ) (n : List ℕ) (xs now : List Item) (x : Item) → i < length names → n ≡ get_or names i n
    → items_as xs ≡ map f (take i names) → now ≡ xs ++ x ∷ [] → item_as x ≡ f n → items_as now ≡ map f (take (i + 1) names)
items_more f names i n xs now x lt is was e new =
    map_more f names i n (items_as xs) (items_as now) (item_as x) lt is was (ap items_as e ∙ map_both item_as xs (x ∷ [])) new

-- the record of the decision
pub go_made : (a : Actor) (t : Task) (made : List Made) (names : List (List ℕ)) (entries : List Entry) (moment : Option ℤ) → names ≡ all_of (job_of a t)
    → ((cs : List CoreChange) → entries ≡ entries_for (λ n. way_made (made_at (mades_as cs made) n)) names) → moment ≡ moment_of (job_of a t)
    → record { phase = Go; token = a.token; moment = moment; entries = entries } ≡ go_of (job_of a t) (mades_as (changes_of t) made)
go_made a t made names entries moment named are when =
    ap (λ (es : List Entry). record { phase = Go; token = a.token; moment = moment; entries = es })
    (are (changes_of t) ∙ ap (entries_for (λ n. way_made (made_at (mades_as (changes_of t) made) n))) named)
    ∙ ap (λ (m : Option ℤ). record { phase = Go; token = a.token; moment = m; entries = (go_of (job_of a t) (mades_as (changes_of t) made)).entries }) when
    ∙ ap (λ (k : ℕ). record { phase = Go; token = k; moment = moment_of (job_of a t); entries = (go_of (job_of a t) (mades_as (changes_of t) made)).entries }) (sym (job_token a t))

-- the entry of a name, as it was made
pub entry_same : (cs : List CoreChange) (made : List Made) (entry : Entry) (way : Way) (copy n first second : List ℕ) → entry ≡ entry_for way copy
    → way ≡ way_made (made_at (mades_as cs made) first) → first ≡ n → copy ≡ second → second ≡ n → entry ≡ entry_for (way_made (made_at (mades_as cs made) n)) n
entry_same cs made entry way copy n first second is how a b c =
    is ∙ ap (λ (w : Way). entry_for w copy) (how ∙ ap (λ (m : List ℕ). way_made (made_at (mades_as cs made) m)) a)
    ∙ ap (entry_for (way_made (made_at (mades_as cs made) n))) (b ∙ c)
