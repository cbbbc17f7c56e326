-- Bytes that are ready are those of the instruction in any fragment.
use Rattle.std.proofs.Common.{◌≡◌, ℕ, ◌+◌, Bool, Option, Result, List, [], ◌∷◌, ◌++◌, length, Some, None, Ok, Err, refl, sym, ap, subst, ◌∙◌, arith}
use Rattle.std.specs.Prelude.{unwrap_or, IsSome, IfOk}
use Rattle.std.proofs.lemmas.List.{append-nil}
use Rattle.x86_values.specs.declared.Bits.{Bits}
use Rattle.x86_values.specs.declared.Instr.{Instr}
use Rattle.encoder.specs.Encoding.{encoding}
use Rattle.move_goals.specs.declared.branch_forms.branch.RelativeBranch.{RelativeBranch}
use Rattle.move_goals.specs.BranchForms.Branches.{branch_of}
use Rattle.move_goals.specs.BranchForms.Images.{image_of, image_by, branch_image}
use Rattle.branch_sizes.specs.declared.plan.Form.{Form}
use Rattle.branch_sizes.specs.declared.plan.Form.TheVariants.{Itself}
use Rattle.branch_sizes.specs.declared.plan.Reach.{Reach}
use Rattle.branch_sizes.specs.declared.plan.Reach.TheVariants.{Always}
use Rattle.branch_sizes.specs.Layout.{Reaches}
use Rattle.move_goals.specs.MovedTargets.Targets.{target_reach, with_target}
use Rattle.move_goals.specs.MovedTargets.Independent.{IsIndependent}
use Rattle.branch_sizes.specs.declared.move_layout.layout.Fragment.{Fragment}
use Rattle.move_goals.specs.Ready.{MayBeReady}
use Rattle.block_encoder.specs.Bytes.{in_front, bytes_from, fragment_bytes}
use Rattle.block_encoder.specs.Moved.{fragment_reach}
use Rattle.block_encoder.specs.Written.{AreAppended, IsFragmentWritten}
use Rattle.block_encoder.proofs.Going.{untargeted-image}

own_image : (bits : Bits) (i : Instr) (b : Option RelativeBranch) (place goal slot : ℕ) → image_by bits i b Itself place goal slot ≡ with_target goal i ∷ []
unfolding branch_image
own_image bits i None place goal slot = refl
own_image bits i (Some b) place goal slot = refl

-- the bytes of one instruction
single : (bits : Bits) (at : ℕ) (i : Instr) (bytes : List ℕ) → encoding bits at i ≡ Ok bytes → bytes_from bits at (i ∷ []) ≡ Some bytes
unfolding bytes_from
single bits at i bytes h =
    subst (λ e. (elim e [ Ok b ↦ in_front b (bytes_from bits (at + length b) []) | Err why ↦ None ]) ≡ Some bytes) (sym h)
    (ap (λ (b : List ℕ). Some b) (append-nil bytes))

own_reach : (i : Instr) (form : Form) (reach : Reach) (len place goal : ℕ) → form ≡ Itself → target_reach i ≡ Always
    → Reaches (fragment_reach i form reach) len place goal
own_reach i form reach len place goal form-is free = rw (form-is, free) _

-- the image of its own form
pub itself-image : (bits : Bits) (i : Instr) (place goal slot : ℕ) → image_of bits i Itself place goal slot ≡ with_target goal i ∷ []
unfolding image_of
itself-image bits i place goal slot = own_image bits i (branch_of i) place goal slot

-- what is appended of an image of one instruction is appended of the fragment
pub fragment_single : {E : Type 0} (bits : Bits) (i image : Instr) (fragment : Fragment) (form : Form) (old new : List ℕ) (r : Result Bool E) → fragment.form ≡ form
    → image_of bits i form fragment.place fragment.goal fragment.slot ≡ image ∷ []
    → IfOk r (λ done. AreAppended (bytes_from bits fragment.place (image ∷ [])) old new done)
    → IfOk r (λ done. AreAppended (fragment_bytes bits i fragment) old new done)
fragment_single bits i image fragment form old new r form-is image-is h = rw (form-is, image-is) h

-- no bytes are ready of anything
pub none_ready : (bits : Bits) (i : Instr) → MayBeReady bits i []
none_ready bits i some = absurd (omega (arith, some))

-- **an instruction of which some bytes are ready is written by them in a fragment of its own form**
pub written_ready : (bits : Bits) (i : Instr) (fragment : Fragment) (old new bytes : List ℕ) → with_target fragment.goal i ≡ i → target_reach i ≡ Always
    → IsIndependent bits i bytes → fragment.form ≡ Itself → new ≡ old ++ bytes → IsFragmentWritten bits i fragment old new
written_ready bits i fragment old new bytes stays free is own appended =
    let image = untargeted-image bits i fragment.form fragment.place fragment.goal fragment.slot stays is.untargeted in
    let written : fragment_bytes bits i fragment ≡ Some bytes =
    ap (bytes_from bits fragment.place) image ∙ single bits fragment.place i bytes (is.encoded fragment.place) in
    let there : IsSome (fragment_bytes bits i fragment) = subst (λ b. IsSome b) (sym written) refl in (
      (own_reach i fragment.form fragment.reach fragment.len fragment.place fragment.goal own free, there),
      appended ∙ ap (λ b. old ++ unwrap_or b []) (sym written),
    )
