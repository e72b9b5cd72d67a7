-- A play leaves the store its length.
use mathlib.Core.Path.{◌≡◌, refl, ◌∙◌}
use mathlib.Core.Bool.{Bool, true, false, cond}
use mathlib.Core.List.{List, [], ◌∷◌}
use Prim.Native.Nat.{ℕ}
use lib.ListN.{length}
use lib.Dec.{eqb}
use Rattle.mir.specs.declared.records.Work.{Work}
use Rattle.mir.specs.declared.records.Record.{Record}
use Rattle.player_machine.specs.Machine.{Store, at, writes, exec, execs, branches, End, ticks, Way, going, seeking, play}
use Rattle.player_machine.proofs.Drawing.{put-length}

exec-length : (k : List ℕ) (w : Work) (σ : Store) → length (exec k w σ) ≡ length σ
unfolding exec
exec-length k w σ = put-length (writes k σ w) σ

execs-length : (k : List ℕ) (ws : List Work) (σ : Store) → length (execs k ws σ) ≡ length σ
unfolding execs
execs-length k [] σ = refl
execs-length k (w ∷ ws) σ = execs-length k ws (exec k w σ) ∙ exec-length k w σ

choose : (P : End → Type 0) (q : Bool) (a b : End) → P a → P b → P (cond q a b)
choose P true a b x y = x
choose P false a b x y = y

pub play-length : (k : List ℕ) (b : List Work) (way : Way) (rs : List Record) (σ : Store) → length (play k b way rs σ).store ≡ length σ
unfolding play ticks
play-length k b going [] σ = refl
play-length k b going (Record.Work w ∷ rs) σ = play-length k b going rs (exec k w σ) ∙ exec-length k w σ
play-length k b going (Record.Label l ∷ rs) σ = play-length k b going rs σ
play-length k b going (Record.Branch l ∷ rs) σ =
    choose (λ e. length e.store ≡ length σ) (eqb l 0) (record { store = σ; played = 1 }) (ticks 1 (play k b (seeking l) rs σ)) refl
    (play-length k b (seeking l) rs σ)
play-length k b going (Record.Call l ∷ rs) σ = play-length k b going rs (execs k b σ) ∙ execs-length k b σ
play-length k b going (Record.BranchIf c l e ∷ rs) σ =
    choose (λ e. length e.store ≡ length σ) (branches e (at σ c)) (play k b (seeking l) rs σ) (play k b going rs σ)
    (play-length k b (seeking l) rs σ) (play-length k b going rs σ)
play-length k b (seeking l) [] σ = refl
play-length k b (seeking l) (Record.Work w ∷ rs) σ = play-length k b (seeking l) rs σ
play-length k b (seeking l) (Record.Label m ∷ rs) σ =
    choose (λ e. length e.store ≡ length σ) (eqb m l) (ticks 1 (play k b going rs σ)) (play k b (seeking l) rs σ) (play-length k b going rs σ)
    (play-length k b (seeking l) rs σ)
play-length k b (seeking l) (Record.Branch m ∷ rs) σ = play-length k b (seeking l) rs σ
play-length k b (seeking l) (Record.Call m ∷ rs) σ = play-length k b (seeking l) rs σ
play-length k b (seeking l) (Record.BranchIf c m e ∷ rs) σ = play-length k b (seeking l) rs σ
