-- `look::show::fills` meets its contract, kind by kind.
use borrow.Author.Rules.{rules}
use mathlib.Core.Path.{sym, ◌∙◌}
use Rattle.look.proofs.Fills.{uni-fills, bi-fills, mov-fills, load-fills, load-const-fills, fused-fills, if-else-fills, load-complex-fills, complex-bi-fills, save-fills, save-complex-fills, other-fills}
use Rattle.look.proofs.show.fills.Statement.{statement}
use Rattle.look.proofs.show.fills.Tie as tie

pub fills_spec : {M : Type 1} → statement M
fills_spec =
    tie.close
    (tie.spec
    (λ c κs. search rules) (λ c κs. search rules) (λ c. search rules) (λ c κs. search rules) (λ c κs. search rules)
    (λ c. search rules) (λ c κs. search rules) (λ c κs. search rules) (λ c. search rules) (λ c κs. search rules)
    (λ c κs. search rules) (λ c. search rules) (λ c κs. search rules) (λ c κs. search rules) (λ c κs. search rules)
    (λ c. search rules) (λ c κs. search rules) (λ c κs. search rules) (λ c. search rules) (λ c κs. search rules)
    (λ c κs. search rules) (λ c. search rules) (λ c κs. search rules) (λ c κs. search rules) (λ c. search rules)
    (λ c κs. search rules) (λ c. search rules) (λ c κs. search rules) (λ c κs. search rules) (λ c κs. search rules)
    (λ c. search rules) (λ c κs. search rules) (λ c. search rules) (λ c κs. search rules) (λ c κs. search rules)
    (λ c. uni-fills c.args.s.now (sym c.u16_at.ensures ∙ c.in-1.is) c.byte.ensures c.one.ensures)
    (λ c. bi-fills c.args.s.now (sym c.u16_at.ensures ∙ c.in-2.is) c.byte-in-2.ensures c.one-in-2.ensures)
    (λ c. mov-fills c.args.s.now (sym c.u16_at.ensures ∙ c.in-3.is) c.byte-in-3.ensures c.one-in-3.ensures)
    (λ c. load-fills c.args.s.now (sym c.u16_at.ensures ∙ c.in-4.is) c.byte-in-4.ensures c.one-in-4.ensures)
    (λ c. save-fills c.args.s.now (sym c.u16_at.ensures ∙ c.in-5.is) c.save_fills.ensures)
    (λ c. load-const-fills c.args.s.now (sym c.u16_at.ensures ∙ c.in-6.is) c.byte-in-6.ensures c.one-in-6.ensures)
    (λ c. fused-fills c.args.s.now (sym c.u16_at.ensures ∙ c.in-7.is) c.byte-in-7.ensures c.one-in-7.ensures)
    (λ c. if-else-fills c.args.s.now (sym c.u16_at.ensures ∙ c.in-8.is) c.byte-in-8.ensures c.one-in-8.ensures)
    (λ c. load-complex-fills c.args.s.now (sym c.u16_at.ensures ∙ c.in-11.is) c.byte-in-11.ensures c.byte-in-11-2.ensures c.two.ensures)
    (λ c. save-complex-fills c.args.s.now (sym c.u16_at.ensures ∙ c.in-12.is) c.save_complex_fills.ensures)
    (λ c. complex-bi-fills c.args.s.now (sym c.u16_at.ensures ∙ c.in-13.is) c.byte-in-13.ensures c.byte-in-13-2.ensures c.two-in-13.ensures)
    (λ c. other-fills c.args.s.now c.u16_at.ensures c.in_default.in_default-own.rest.0.0.0.0.0.0.0.0.0.0.1 c.in_default.in_default-own.rest.0.0.0.0.0.0.0.0.0.1 c.in_default.in_default-own.rest.0.0.0.0.0.0.0.0.1 c.in_default.in_default-own.rest.0.0.0.0.0.0.0.1 c.in_default.in_default-own.rest.0.0.0.0.0.0.1 c.in_default.in_default-own.rest.0.0.0.0.0.1 c.in_default.in_default-own.rest.0.0.0.0.1 c.in_default.in_default-own.rest.0.0.0.1 c.in_default.in_default-own.rest.0.0.1 c.in_default.in_default-own.rest.0.1 c.in_default.in_default-own.rest.1))
