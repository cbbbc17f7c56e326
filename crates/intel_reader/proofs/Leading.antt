-- Going over candidates: what was found first stays the first of those gone over.
use Rattle.std.proofs.Common.{◌≡◌, ℕ, true, false, List, length, Option, Some, None, refl, ap, sym, ◌∙◌, subst}
use Rattle.std.specs.declared.cmp.Ordering.{Ordering}
use Rattle.std.specs.declared.cmp.Ordering.TheVariants.{Less, Equal, Greater}
use Rattle.std.specs.Cmp.{IsTotalOrder}
use Rattle.std.specs.Ordering.{is_gt, ordering_reverse}
use Rattle.std.proofs.lemmas.Cmp.{upto, tied_itself, nat_cmp_total, nat_list_cmp_total, on_total, then_total}
use Rattle.x86_values.specs.declared.Bits.{Bits}
use Rattle.x86_values.specs.declared.Bits.TheVariants.{B16, B32, B64}
use Rattle.x86_values.specs.declared.DispSize.{DispSize}
use Rattle.x86_values.specs.declared.DispSize.TheVariants.{D0, D8, D16, D32, D64}
use Rattle.intel_reader.specs.declared.choice.Found.{Found}
use Rattle.intel_reader.specs.Assembled.{Assembly, compare_assemblies}
use Rattle.intel_reader.specs.Choice.{assembly_of, LeadsChoice, IsProgress}

-- the order of candidates is total
pub rank_total : IsTotalOrder compare_assemblies
rank_total = then_total (on_total (λ (a : Assembly). length a.bytes) nat_cmp_total) (then_total (on_total (λ (a : Assembly). a.instr.code.0) nat_cmp_total) (on_total (λ (a : Assembly). a.bytes) nat_list_cmp_total))

-- an assembly is not behind itself
pub not_after-self : (a : Assembly) → is_gt (compare_assemblies a a) ≡ false
not_after-self a = ap is_gt (tied_itself rank_total a)

-- so it leads itself
pub leads_itself : (f : Found) (b : Assembly) → assembly_of f ≡ b → LeadsChoice (Some f) b
leads_itself f b e = subst (λ (c : Assembly). is_gt (compare_assemblies (assembly_of f) c) ≡ false) e (not_after-self (assembly_of f))

reversed : (o : Ordering) → is_gt o ≡ true → is_gt (ordering_reverse o) ≡ false
reversed Less h = sym h
reversed Equal h = refl
reversed Greater h = refl

-- of two the one that is after the other is not before it
pub other_first : (a b : Assembly) → is_gt (compare_assemblies a b) ≡ true → is_gt (compare_assemblies b a) ≡ false
other_first a b h = ap is_gt (rank_total.antisymm b a) ∙ reversed (compare_assemblies a b) h

-- what a choice leads, an earlier one leads
pub leads_on : (f g : Found) (b : Assembly) → is_gt (compare_assemblies (assembly_of g) (assembly_of f)) ≡ false → LeadsChoice (Some f) b → LeadsChoice (Some g) b
leads_on f g b h k = upto rank_total (assembly_of g) (assembly_of f) b h k

-- a choice that stays makes progress
pub stays : (bits : Bits) (ip : ℕ) (text : List ℕ) (best : Option Found) → IsProgress bits ip text best best
stays bits ip text best = record { held = λ h. h; kept = λ b h. h }

-- progress goes on
pub goes_on : (bits : Bits) (ip : ℕ) (text : List ℕ) (a b c : Option Found) → IsProgress bits ip text a b → IsProgress bits ip text b c → IsProgress bits ip text a c
goes_on bits ip text a b c p q = record { held = λ h. q.held (p.held h); kept = λ x h. q.kept x (p.kept x h) }

-- of two found the later gives way
pub greater_kept : (first other : Found) (best : Option Found) → best ≡ Some first → is_gt (compare_assemblies (assembly_of first) (assembly_of other)) ≡ true → (b : Assembly) → LeadsChoice best b → is_gt (compare_assemblies (assembly_of other) b) ≡ false
greater_kept first other best e g b h =
    let k : LeadsChoice (Some first) b = subst (λ (o : Option Found). LeadsChoice o b) e h in
    leads_on first other b (other_first (assembly_of first) (assembly_of other) g) k

-- where each displacement size was gone over
pub five : (bits : Bits) (ip : ℕ) (text : List ℕ) (a b c d e : Option Found) (x : Assembly) (P : DispSize → Type 0)
    → IsProgress bits ip text a b → IsProgress bits ip text b c → IsProgress bits ip text c d → IsProgress bits ip text d e
    → (P D0 → LeadsChoice a x) → (P D8 → LeadsChoice b x) → (P D16 → LeadsChoice c x) → (P D32 → LeadsChoice d x) → (P D64 → LeadsChoice e x) → (size : DispSize) → P size → LeadsChoice e x
five bits ip text a b c d e x P ab bc cd de f0 f1 f2 f3 f4 D0 p = de.kept x (cd.kept x (bc.kept x (ab.kept x (f0 p))))
five bits ip text a b c d e x P ab bc cd de f0 f1 f2 f3 f4 D8 p = de.kept x (cd.kept x (bc.kept x (f1 p)))
five bits ip text a b c d e x P ab bc cd de f0 f1 f2 f3 f4 D16 p = de.kept x (cd.kept x (f2 p))
five bits ip text a b c d e x P ab bc cd de f0 f1 f2 f3 f4 D32 p = de.kept x (f3 p)
five bits ip text a b c d e x P ab bc cd de f0 f1 f2 f3 f4 D64 p = f4 p

-- where each address size was gone over
pub four : (bits : Bits) (ip : ℕ) (text : List ℕ) (a b c d : Option Found) (x : Assembly) (P : Option Bits → Type 0)
    → IsProgress bits ip text a b → IsProgress bits ip text b c → IsProgress bits ip text c d
    → (P None → LeadsChoice a x) → (P (Some B16) → LeadsChoice b x) → (P (Some B32) → LeadsChoice c x) → (P (Some B64) → LeadsChoice d x) → (asize : Option Bits) → P asize → LeadsChoice d x
four bits ip text a b c d x P ab bc cd f0 f1 f2 f3 None p = cd.kept x (bc.kept x (ab.kept x (f0 p)))
four bits ip text a b c d x P ab bc cd f0 f1 f2 f3 (Some B16) p = cd.kept x (bc.kept x (f1 p))
four bits ip text a b c d x P ab bc cd f0 f1 f2 f3 (Some B32) p = cd.kept x (f2 p)
four bits ip text a b c d x P ab bc cd f0 f1 f2 f3 (Some B64) p = f3 p
