-- What a command comes to where nothing refuses it.
use Rattle.std.proofs.Common.{◌≡◌, ℕ, List, sym, ap, ◌∙◌}
use Rattle.std.specs.declared.result.Result.TheVariants.{Ok}
use Rattle.message_state.specs.declared.mark.Act.{Act}
use Rattle.message_list.specs.declared.list.Purpose.TheVariants.{Live}
use Rattle.command_desk.specs.declared.desk.Desk.{Desk}
use Rattle.command_desk.specs.Answers.{OrFault, next}
use Rattle.command_desk.specs.FileNames.{expanded}
use Rattle.command_desk.specs.Selecting.{chosen}
use Rattle.folder_commands.specs.declared.wanted.Filing.{Filing}
use Rattle.folder_commands.specs.Saving.{adding, writing, into_named, write_to}

-- two things that nothing refuses, and what they come to
both : {A B : Type 0} (a : OrFault A) (b : A → OrFault B) (make : A → B → Filing) (x : A) (y : B) (f : Filing) → a ≡ Ok x → b x ≡ Ok y → f ≡ make x y
    → next a (λ x. next (b x) (λ y. Ok (make x y))) ≡ Ok f
both a b make x y f is_a is_b is_f =
    ap (λ r. next r (λ x. next (b x) (λ y. Ok (make x y)))) is_a ∙ ap (λ r. next r (λ y. Ok (make x y))) is_b ∙ ap Ok (sym is_f)

pub into-named : (act : Act) (desk : Desk) (list : List (List ℕ)) (word : List ℕ) (ns : List ℕ) (name : List ℕ) (f : Filing)
    → chosen Live desk list ≡ Ok ns → expanded desk word ≡ Ok name → f ≡ adding act desk ns name
    → into_named act desk list word ≡ Ok f
into-named act desk list word ns name f is_chosen is_name is_f = both (chosen Live desk list) (λ ns. expanded desk word) (λ ns name. adding act desk ns name) ns name f is_chosen is_name is_f

pub write-to : (desk : Desk) (list : List (List ℕ)) (word : List ℕ) (ns : List ℕ) (name : List ℕ) (f : Filing) → chosen Live desk list ≡ Ok ns → expanded desk word ≡ Ok name → f ≡ writing desk ns name
    → write_to desk list word ≡ Ok f
write-to desk list word ns name f is_chosen is_name is_f = both (chosen Live desk list) (λ ns. expanded desk word) (λ ns name. writing desk ns name) ns name f is_chosen is_name is_f
