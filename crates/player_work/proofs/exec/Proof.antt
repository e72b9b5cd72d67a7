-- `work::exec` meets its contract, kind by kind.
use borrow.Author.Rules.{rules}
use borrow.Author.Tests.{ne_eqb}
use Rattle.player_work.specs.Encoded.{encoded}
use Rattle.player_work.proofs.exec.Statement.{statement}
use Rattle.player_work.proofs.exec.Tie as tie

pub exec_spec : {M : Type 1} → statement M
unfolding encoded
exec_spec =
    tie.close
    (tie.spec
    (λ c κs. search rules) (λ c κs. search rules) (λ c κs. search rules) (λ c κs. search rules) (λ c κs. search rules)
    (λ c κs. search rules) (λ c κs. search rules) (λ c κs. search rules) (λ c κs. search rules) (λ c κs. search rules)
    (λ c κs. search rules) (λ c κs. search rules) (λ c. search rules)
    (λ c. (simp (← c.u16_at.ensures, c.in-1.is) c.play_uni.ensures.0, simp (← c.u16_at.ensures, c.in-1.is) (c.play_uni.ensures.1 c.args.constants.now)))
    (λ c. search rules)
    (λ c. (simp (← c.u16_at.ensures, c.in-2.is) c.play_bi.ensures.0, simp (← c.u16_at.ensures, c.in-2.is) (c.play_bi.ensures.1 c.args.constants.now)))
    (λ c. search rules)
    (λ c. (simp (← c.u16_at.ensures, c.in-3.is) c.play_mov.ensures.0, simp (← c.u16_at.ensures, c.in-3.is) (c.play_mov.ensures.1 c.args.constants.now)))
    (λ c. search rules)
    (λ c. (simp (← c.u16_at.ensures, c.in-4.is) c.play_load.ensures.0, simp (← c.u16_at.ensures, c.in-4.is) (c.play_load.ensures.1 c.args.constants.now)))
    (λ c. search rules)
    (λ c. (simp (← c.u16_at.ensures, c.in-5.is) c.play_save.ensures.0, simp (← c.u16_at.ensures, c.in-5.is) (c.play_save.ensures.1 c.args.constants.now)))
    (λ c. search rules)
    (λ c. (simp (← c.u16_at.ensures, c.in-6.is) c.play_load_const.ensures.0, simp (← c.u16_at.ensures, c.in-6.is) c.play_load_const.ensures.1))
    (λ c. search rules)
    (λ c. (simp (← c.u16_at.ensures, c.in-7.is) c.play_fused.ensures.0, simp (← c.u16_at.ensures, c.in-7.is) (c.play_fused.ensures.1 c.args.constants.now)))
    (λ c. search rules)
    (λ c. (simp (← c.u16_at.ensures, c.in-8.is) c.play_if_else.ensures.0, simp (← c.u16_at.ensures, c.in-8.is) (c.play_if_else.ensures.1 c.args.constants.now)))
    (λ c. search rules)
    (λ c. (simp (← c.u16_at.ensures, c.in-11.is) c.play_load_complex.ensures.0, simp (← c.u16_at.ensures, c.in-11.is) (c.play_load_complex.ensures.1 c.args.constants.now)))
    (λ c. search rules)
    (λ c. (simp (← c.u16_at.ensures, c.in-12.is) c.play_save_complex.ensures.0, simp (← c.u16_at.ensures, c.in-12.is) (c.play_save_complex.ensures.1 c.args.constants.now)))
    (λ c. search rules)
    (λ c. (simp (← c.u16_at.ensures, c.in-13.is) c.play_complex_bi.ensures.0, simp (← c.u16_at.ensures, c.in-13.is) (c.play_complex_bi.ensures.1 c.args.constants.now)))
    (λ c. (simp (← c.u16_at.ensures, ne_eqb _ _ c.in_default.in_default-own.rest.0.0.0.0.0.0.0.0.0.0.1, ne_eqb _ _ c.in_default.in_default-own.rest.0.0.0.0.0.0.0.0.0.1, ne_eqb _ _ c.in_default.in_default-own.rest.0.0.0.0.0.0.0.0.1, ne_eqb _ _ c.in_default.in_default-own.rest.0.0.0.0.0.0.0.1, ne_eqb _ _ c.in_default.in_default-own.rest.0.0.0.0.0.0.1, ne_eqb _ _ c.in_default.in_default-own.rest.0.0.0.0.0.1, ne_eqb _ _ c.in_default.in_default-own.rest.0.0.0.0.1, ne_eqb _ _ c.in_default.in_default-own.rest.0.0.0.1, ne_eqb _ _ c.in_default.in_default-own.rest.0.0.1, ne_eqb _ _ c.in_default.in_default-own.rest.0.1, ne_eqb _ _ c.in_default.in_default-own.rest.1), simp (← c.u16_at.ensures, ne_eqb _ _ c.in_default.in_default-own.rest.0.0.0.0.0.0.0.0.0.0.1, ne_eqb _ _ c.in_default.in_default-own.rest.0.0.0.0.0.0.0.0.0.1, ne_eqb _ _ c.in_default.in_default-own.rest.0.0.0.0.0.0.0.0.1, ne_eqb _ _ c.in_default.in_default-own.rest.0.0.0.0.0.0.0.1, ne_eqb _ _ c.in_default.in_default-own.rest.0.0.0.0.0.0.1, ne_eqb _ _ c.in_default.in_default-own.rest.0.0.0.0.0.1, ne_eqb _ _ c.in_default.in_default-own.rest.0.0.0.0.1, ne_eqb _ _ c.in_default.in_default-own.rest.0.0.0.1, ne_eqb _ _ c.in_default.in_default-own.rest.0.0.1, ne_eqb _ _ c.in_default.in_default-own.rest.0.1, ne_eqb _ _ c.in_default.in_default-own.rest.1))))
