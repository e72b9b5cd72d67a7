-- `sheet::setup::read_setup`: the header, and behind it the constants.
use Rattle.std.proofs.Common.{rules, ◌≡◌, sym, ap, ◌∙◌, Err}
use Rattle.mir.specs.Refusal.{as_read}
use Rattle.sheet.specs.Setup.{as_setup}
use Rattle.sheet.proofs.Heading.{headed, setup-right, miscounted, headless}
use Rattle.sheet.proofs.Counting.{few}
use Rattle.sheet.proofs.setup.read_setup.Goals as goal

pub returns-in_err-mode : goal.returns-in_err-mode
returns-in_err-mode c =
    let r = c.in_err-mode.field-0.0 in
    let e : as_setup c.from_residual.result ≡ as_setup (Err r) = search rules in
    e ∙ headless c.args.sheet.now r (sym c.read_header.ensures ∙ ap as_read c.in_err-mode.was)

pub slice_bounds-count_constants-count : goal.slice_bounds-count_constants-count
slice_bounds-count_constants-count c =
    let h = headed c.args.sheet.now _ (sym c.read_header.ensures ∙ ap as_read c.in_ok-mode.was) in h.least

pub slice_bounds-count_constants-start : goal.slice_bounds-count_constants-start
slice_bounds-count_constants-start c =
    let h = headed c.args.sheet.now _ (sym c.read_header.ensures ∙ ap as_read c.in_ok-mode.was) in search rules

pub returns-in_err-count : goal.returns-in_err-count
returns-in_err-count c =
    let r = c.in_err-count.field-0.0 in
    let e : as_setup c.from_residual-in_err-count.result ≡ as_setup (Err r) = search rules in
    e
    ∙ miscounted c.args.sheet.now r (sym c.read_header.ensures ∙ ap as_read c.in_ok-mode.was)
    (sym c.count_constants.ensures ∙ ap as_read c.in_err-count.was)

pub places_of-places-requires : goal.places_of-places-requires
places_of-places-requires c =
    let h = headed c.args.sheet.now _ (sym c.read_header.ensures ∙ ap as_read c.in_ok-mode.was) in h.least

pub overflow_mul-result : goal.overflow_mul-result
overflow_mul-result c =
    let h = few 251 _ _ (sym c.count_constants.ensures ∙ ap as_read c.in_ok-count.was) in search rules

pub overflow_add-result : goal.overflow_add-result
overflow_add-result c =
    let h = few 251 _ _ (sym c.count_constants.ensures ∙ ap as_read c.in_ok-count.was) in search rules

pub returns : goal.returns
returns c =
    setup-right c.args.sheet.now (sym c.read_header.ensures ∙ ap as_read c.in_ok-mode.was)
    (sym c.count_constants.ensures ∙ ap as_read c.in_ok-count.was) c.places_of-places.ensures
