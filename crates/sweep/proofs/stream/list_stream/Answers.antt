use Rattle.sweep.proofs.Completing.{listing_goes_on, completes_listing}
use Rattle.sweep.specs.Ends.{of_streamed}
use Rattle.sweep.proofs.stream.list_stream.Goals as goal

pub returns-clause-answer : goal.returns-clause-answer
returns-clause-answer g c =
    let streamed = rw c.mode_of.ensures at c.stream_all.ensures.answer in
    rw (c.listing_answer.ensures (listing_goes_on _ _ _ _ _ _ _ _ _ c.stream_all.result streamed)) streamed

pub returns-clause-complete : goal.returns-clause-complete
returns-clause-complete g c =
    let streamed = rw c.mode_of.ensures at c.stream_all.ensures.answer in
    rw (c.listing_answer.ensures (listing_goes_on _ _ _ _ _ _ _ _ _ c.stream_all.result streamed))
    (λ s o. completes_listing c.told_bytes_are_read.ensures _ _ _ _ _ _ _ _ _ (of_streamed c.stream_all.result) streamed s o)

pub returns-clause-calls : goal.returns-clause-calls
returns-clause-calls g c =
    let streamed = rw c.mode_of.ensures at c.stream_all.ensures.answer in
    rw (c.listing_answer.ensures (listing_goes_on _ _ _ _ _ _ _ _ _ c.stream_all.result streamed)) (rw c.mode_of.ensures at c.stream_all.ensures.calls)
