use Rattle.listing_run.proofs.Completing.{completes_list}
use Rattle.listing_run.proofs.program.answer.Goals as goal

pub returns-in-List-clause-complete : goal.returns-in-List-clause-complete
returns-in-List-clause-complete g c = rw c.in-List.is (λ s o. completes_list
    c.listings_come_to_their_end.ensures
    c.in-List.bits
    c.in-List.base
    c.in-List.syntax
    (g.S.Source.left c.args.source.now)
    (g.S.Source.left c.go_through.new.source)
    (g.K.Sink.held c.args.out.now)
    (g.K.Sink.held c.go_through.new.out)
    (g.S.Source.faults c.args.source.now)
    (g.S.Source.faults c.go_through.new.source)
    (g.K.Sink.faults c.args.out.now)
    (g.K.Sink.faults c.go_through.new.out)
    c.go_through.result
    c.go_through.ensures.answer
    s
    o)
