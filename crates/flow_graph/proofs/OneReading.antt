-- The bytes from an offset on are read and measured in one way alone.
use Rattle.std.proofs.Common.{◌≡◌, ℕ, ◌+◌, List, drop, Result, Ok, Err, refl, ap, ◌∙◌, subst}
use Rattle.x86_values.specs.declared.Bits.{Bits}
use Rattle.x86_values.specs.declared.Decoded.{Decoded}
use Rattle.row_relation.specs.Spells.{Reading, Read, TooShort, Invalid}
use Rattle.opcode_rows.specs.Sweep.{IsReadAt}
use Rattle.decoder.specs.declared.DecodeError.{DecodeError}
use Rattle.decoder.specs.declared.DecodeError.TheVariants.{Invalid as InvalidError, TooShort as TooShortError}
use Rattle.decoder.specs.Answer.{reading_of}
use Rattle.decoder.specs.OneReading.{OneReadingFacts}
use Rattle.unlisted.specs.declared.Shape.{Shape}
use Rattle.unlisted.specs.declared.MeasureError.{MeasureError}
use Rattle.unlisted.specs.Measured.{IsMeasured, IsMeasuredAs}
use Rattle.flow_graph.specs.Control.{CodeBytes, IsReadIn, UnreadLeads, UnreadEnds, ReadingLeads, ReadingEnds, IsSuccessor, EndsAt}

-- some bytes have one answer, as the law of the measure says
abbrev pub OneAnswerFacts : Type 0
OneAnswerFacts = (bits : Bits) (bytes : List ℕ) (answer other : Result Shape MeasureError) → IsMeasured bits bytes answer → IsMeasured bits bytes other → answer ≡ other

module _ (one : OneReadingFacts) where
  -- some bytes at an offset have one reading
  pub reading_unique : (bits : Bits) (base offset : ℕ) (bytes : List ℕ) (reading other : Reading) → IsReadAt bits base offset bytes reading →
      IsReadAt bits base offset bytes other → reading ≡ other
  unfolding IsReadAt
  reading_unique bits base offset bytes reading other h k = one.reading_same bits (base + offset) bytes reading other h k

  -- what is read leads to each successor
  pub leads_to : (code : CodeBytes) (p q : ℕ) (reading : Reading) → IsReadIn code p reading → IsSuccessor code p q → ReadingLeads code p reading q
  leads_to code p q reading reads s =
      subst (λ (r : Reading). ReadingLeads code p r q) (reading_unique code.bits code.base p (drop p code.bytes) s.reading reading s.reads reads) s.leads

  -- what is read ends where the instruction does
  pub ends_to : (code : CodeBytes) (p q : ℕ) (reading : Reading) → IsReadIn code p reading → EndsAt code p q → ReadingEnds code p reading q
  ends_to code p q reading reads e =
      subst (λ (r : Reading). ReadingEnds code p r q) (reading_unique code.bits code.base p (drop p code.bytes) e.reading reading e.reads reads) e.end

-- ---- where nothing is read

-- control goes where no instruction of the table leads
pub unread_leads : (code : CodeBytes) (p q : ℕ) (e : DecodeError) → UnreadLeads code.follow code p q → ReadingLeads code p (reading_of (Err e)) q
unread_leads code p q TooShortError h = h
unread_leads code p q InvalidError h = h

-- and nowhere else
pub leads_unread : (code : CodeBytes) (p q : ℕ) (e : DecodeError) → ReadingLeads code p (reading_of (Err e)) q → UnreadLeads code.follow code p q
leads_unread code p q TooShortError h = h
leads_unread code p q InvalidError h = h

-- likewise its end
pub unread_ends : (code : CodeBytes) (p q : ℕ) (e : DecodeError) → UnreadEnds code.follow code p q → ReadingEnds code p (reading_of (Err e)) q
unread_ends code p q TooShortError h = h
unread_ends code p q InvalidError h = h

-- and no other end
pub ends_unread : (code : CodeBytes) (p q : ℕ) (e : DecodeError) → ReadingEnds code p (reading_of (Err e)) q → UnreadEnds code.follow code p q
ends_unread code p q TooShortError h = h
ends_unread code p q InvalidError h = h

same_shape : (a b : Shape) (x y : Result Shape MeasureError) → x ≡ Ok a → y ≡ Ok b → x ≡ y → a ≡ b
same_shape a b x y h k e = cc

no_shape : (a : Shape) (why : MeasureError) (x y : Result Shape MeasureError) → x ≡ Ok a → y ≡ Err why → x ≡ y → ⊥
no_shape a why x y h k e = cc

module _ (same : OneAnswerFacts) (bits : Bits) (bytes : List ℕ) where
  -- some bytes have one shape
  pub shape_unique : (a b : Shape) → IsMeasuredAs bits bytes a → IsMeasuredAs bits bytes b → a ≡ b
  shape_unique a b h k = same_shape a b (Ok a) (Ok b) refl refl (same bits bytes (Ok a) (Ok b) h k)

  -- none where they are not measured
  pub shape_or_error : (a : Shape) (why : MeasureError) → IsMeasuredAs bits bytes a → IsMeasured bits bytes (Err why) → ⊥
  shape_or_error a why h k = no_shape a why (Ok a) (Err why) refl refl (same bits bytes (Ok a) (Err why) h k)
