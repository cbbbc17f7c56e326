-- The bytes of images and fillers, and those of the moved instructions one behind another.
use Rattle.std.proofs.Common.{◌≡◌, ℕ, ◌+◌, List, [], ◌∷◌, ◌++◌, length, Option, Some, None, Result, Ok, Err, slice_get, refl, ap, ◌∙◌, arith, length-append}
use Rattle.std.specs.Prelude.{IsSome, is_some, unwrap_or, if◌then◌else◌}
use Rattle.std.specs.Option.{option_or}
use Rattle.x86_values.specs.declared.Bits.{Bits}
use Rattle.x86_values.specs.declared.Instr.{Instr}
use Rattle.plain_spelling.specs.declared.NoSpelling.{NoSpelling}
use Rattle.opcode_rows.specs.Table.{table}
use Rattle.operand_info.specs.Operands.{near_value, ip_value, first_value}
use Rattle.encoder.specs.Encoding.{encoding}
use Rattle.branch_sizes.specs.declared.plan.Form.{Form}
use Rattle.branch_sizes.specs.declared.move_layout.layout.Fragment.{Fragment}
use Rattle.move_goals.specs.MovedTargets.Targets.{target_of}
use Rattle.move_goals.specs.MovedTargets.Facts.{TargetFacts}
use Rattle.move_goals.specs.BranchForms.Branches.{branch_of, branch_by}
use Rattle.move_goals.specs.BranchForms.Images.{image_by, image_of, pieces_length, form_length}
use Rattle.move_goals.specs.BranchForms.Facts.{FormFacts}
use Rattle.block_encoder.specs.Bytes.{in_front, bytes_from, fragment_image, fragment_bytes}
use Rattle.code_items.specs.AnyWriting.{IsFiller}

-- ---- the length of an image

in_front-some : (bytes : List ℕ) (o : Option (List ℕ)) (all : List ℕ) → in_front bytes o ≡ Some all → (rest : List ℕ) × (o ≡ Some rest) × (all ≡ bytes ++ rest)
in_front-some bytes None all h = cc
in_front-some bytes (Some rest) all h = (rest, refl, cc)

-- the spelling of the first of some instructions, and those of the others behind it
record Parted (bits : Bits) (at : ℕ) (i : Instr) (is : List Instr) (all : List ℕ) : Type 0 where
  pub bytes : List ℕ
  pub rest : List ℕ
  pub first : encoding bits at i ≡ Ok bytes
  pub others : bytes_from bits (at + length bytes) is ≡ Some rest
  pub all_are : all ≡ bytes ++ rest

parted : (bits : Bits) (at : ℕ) (i : Instr) (is : List Instr) (all : List ℕ) → bytes_from bits at (i ∷ is) ≡ Some all → Parted bits at i is all
unfolding bytes_from
parted bits at i is all h = by_encoding (encoding bits at i) refl h
  where
    by_encoding : (r : Result (List ℕ) NoSpelling) → encoding bits at i ≡ r → (elim r as (λ (x : Result (List ℕ) NoSpelling). Option (List ℕ)) [ Ok bytes ↦ in_front bytes (bytes_from bits (at + length bytes) is) | Err why ↦ None ]) ≡ Some all → Parted bits at i is all
    by_encoding (Err why) e h = cc
    by_encoding (Ok bytes) e h =
        let k = in_front-some bytes (bytes_from bits (at + length bytes) is) all h in
        record { bytes = bytes; rest = k.0; first = e; others = k.1; all_are = k.2 }

spellings-length : TargetFacts → (bits : Bits) (at : ℕ) (is : List Instr) (all : List ℕ) → bytes_from bits at is ≡ Some all → length all ≡ pieces_length bits is
unfolding bytes_from
spellings-length targets bits at [] all h = let k : all ≡ [] = cc in rw k refl
spellings-length targets bits at (i ∷ is) all h =
    let p = parted bits at i is all h in
    omega (arith, ap length p.all_are, length-append p.bytes p.rest, targets.encoding-length bits at i p.bytes p.first, spellings-length targets bits (at + length p.bytes) is p.rest p.others)

some_or : (o : Option (List ℕ)) → IsSome o → o ≡ Some (unwrap_or o [])
some_or None h = cc
some_or (Some x) h = refl

-- **the bytes of an instruction in a fragment are as many as its form has**
pub fragment-length : TargetFacts → FormFacts → (bits : Bits) (i : Instr) (f : Fragment) → IsSome (fragment_bytes bits i f) →
    length (unwrap_or (fragment_bytes bits i f) []) ≡ form_length bits i f.form
fragment-length targets forms bits i f some =
    spellings-length targets bits f.place (fragment_image bits i f) (unwrap_or (fragment_bytes bits i f) []) (some_or (fragment_bytes bits i f) some)
    ∙ forms.image_of-length bits i f.form f.place f.goal f.slot

-- ---- fillers

neither : (near ip : Option ℕ) → option_or near ip ≡ None → near ≡ None
neither (Some t) ip none = absurd (cc)
neither None ip none = refl

no_branch : (i : Instr) → target_of i ≡ None → branch_of i ≡ None
unfolding target_of branch_of
no_branch i none =
    ap (λ near. if is_some near then branch_by (slice_get table i.code.0) else None) (neither (first_value near_value i) (first_value ip_value i) none)

-- its image is itself, in every form, at every place and with every goal
filler-image : TargetFacts → (bits : Bits) (i : Instr) → IsFiller bits i → (form : Form) (place goal slot : ℕ) → image_of bits i form place goal slot ≡ i ∷ []
unfolding image_of
filler-image targets bits i is form place goal slot =
    ap (λ b. image_by bits i b form place goal slot) (no_branch i is.independent.untargeted)
    ∙ ap (λ (j : Instr). j ∷ []) (targets.untargeted-with_target goal i is.operands is.independent.untargeted)

-- **and it has bytes everywhere**
pub filler-some : TargetFacts → (bits : Bits) (i : Instr) → IsFiller bits i → (f : Fragment) → IsSome (fragment_bytes bits i f)
unfolding bytes_from
filler-some targets bits i is f =
    ap (λ is. is_some (bytes_from bits f.place is)) (filler-image targets bits i is f.form f.place f.goal f.slot)
    ∙ ap (λ (r : Result (List ℕ) NoSpelling). is_some (elim r as (λ (x : Result (List ℕ) NoSpelling). Option (List ℕ)) [ Ok b ↦ in_front b (Some []) | Err why ↦ None ]))
    (is.independent.encoded f.place)
