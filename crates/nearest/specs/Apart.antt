-- The distance of two points in values. Only inner contracts cite it.
use Rattle.std.specs.Prelude.{Float}
use Rattle.std.specs.Float.{binary64}
use Rattle.std.specs.Float.Ieee.{add, sub, mul}

abbrev pub apart : Float → Float → Float → Float → Float
apart re im x y =
    add binary64 (mul binary64 (sub binary64 re x) (sub binary64 re x)) (mul binary64 (sub binary64 im y) (sub binary64 im y))
