use Rattle.std.proofs.Common.{◌≡◌, ℕ, ◌-◌, length, vec_len, ap, ◌∙◌, arith}
use Rattle.replica.specs.Chart.{known_events}
use Rattle.replica.specs.Drawing.{drawing}
use Rattle.replica.specs.ObjectLines.{chart_asked, lines_of}
use Rattle.replica.proofs.charting.log_chart.Goals as goal

pub returns : goal.returns
returns c =
    let asked = chart_asked c.args.choice in
    let lines = c.as_slice-2.ensures.value ∙ c.in_ok-lines.ensures ∙ ap (λ rows. lines_of asked rows) c.as_slice.ensures.value in
    let known : vec_len c.in_ok-known.known ≡ length c.in_ok-known.known.items = omega (arith, c.in_ok-known.known.ok.0) in
    let placed : vec_len c.in_ok-rows.rows ≡ length c.in_ok-rows.rows.items = omega (arith, c.in_ok-rows.rows.ok.0) in
    let more =
    c.saturating_sub-more.ensures
    ∙ ap (λ (n : ℕ). n - c.len-2.result) (c.len.ensures ∙ known ∙ ap length c.in_ok-known.ensures)
    ∙ ap (λ (n : ℕ). length (known_events c.args.log.now) - n) (c.len-2.ensures ∙ placed) in
    record {
      rows = c.in_ok-rows.rows.items;
      passage = c.in_ok-rows.ensures.passage;
      full = c.in_ok-rows.ensures.full;
      draws = c.in_ok-text.ensures ∙ ap (λ ls. drawing ls c.saturating_sub-more.result) lines ∙ ap (λ n. drawing (lines_of asked c.in_ok-rows.rows.items) n) more;
    }
