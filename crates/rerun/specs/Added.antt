-- Constants sought and added: what the functions over the lent constants promise.
use Rattle.std.specs.Prelude.{ℕ, suc, ◌-◌, ◌≤◌, ◌≡◌, List, [], ◌∷◌, ◌++◌, take, drop, replicate}
use Rattle.lowering.specs.Complexifier.{position, appends, stable_const, three_consts}
use Rattle.rerun.specs.declared.output.Added.{Added}
use Rattle.rerun.specs.declared.constants.Found.{Found}
use Rattle.rerun.specs.declared.constants.Three.{Three}

-- nothing added
abbrev pub none : Added
none = record { words = 0 ∷ 0 ∷ 0 ∷ []; count = 0 }

-- the constants of the finished instructions, then those that the instruction under way added
abbrev pub table : List ℕ → Added → List ℕ
table k a = k ++ take a.count a.words

-- the words past the count are zeros
abbrev pub Zeros : Added → Type 0
Zeros a = drop a.count a.words ≡ replicate (3 - a.count) 0

-- `stable_const` of v: the position, whether it was appended, and what is then added
pub record Sought (k : List ℕ) (a : Added) (v : ℕ) (f : Found) : Type 0 where
  pub at : f.at ≡ position v (stable_const v (table k a))
  pub told : f.appended ≡ appends v (table k a)
  pub kept : table k f.added ≡ stable_const v (table k a)
  pub few : f.added.count ≤ suc a.count
  pub zeros : Zeros a → Zeros f.added

-- three constants sought one after the other
pub record ThreeSought (k : List ℕ) (u v w : ℕ) (t : Three) : Type 0 where
  pub first : t.i ≡ position u (stable_const u k)
  pub second : t.j ≡ position v (stable_const v (stable_const u k))
  pub third : t.q ≡ position w (three_consts u v w k)
  pub kept : table k t.added ≡ three_consts u v w k
  pub few : t.added.count ≤ 3
  pub zeros : Zeros t.added
