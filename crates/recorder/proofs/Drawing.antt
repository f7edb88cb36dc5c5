-- Stretches that are drawn one behind the other.
use Rattle.std.proofs.Common.{◌≡◌, ℕ, ◌-◌, ◌<◌, Bool, List, [], ◌∷◌, ◌++◌, length, map, replicate, Some, slice_get, sym, ap, ◌∙◌, subst, append_assoc, arith}
use Rattle.std.proofs.lemmas.List.{append-nil, length-replicate}
use Rattle.std.proofs.lemmas.Grind.{flat_map-append}
use Rattle.rw_objects.specs.Space.{Space}
use Rattle.rw_objects.specs.Code.{Code, CodeLaws}
use Rattle.rw_objects.specs.declared.entry.Entry.{Entry}
use Rattle.event_core.specs.declared.pick.Pick.{Pick}
use Rattle.event_core.specs.World.{WorldAt}
use Rattle.event_core.specs.Run.{entries, IsRun, end_of_world}
use Rattle.pick_schedule.specs.declared.stretches.Stretch.{Stretch}
use Rattle.pick_schedule.specs.Stretches.{picks_of, picks_in}
use Rattle.rand_pcg.specs.Lcg.{Lcg}
use Rattle.recorder.specs.Recorded.{list_at, AreRecorded}
use Rattle.recorder.specs.ThreadLogAt.{RecordedAt}
use Rattle.recorder.proofs.Rest.{taken_is_run, list_none}
use Rattle.recorder.proofs.RecordedLog.{recorded_log}
use Rattle.recorder.proofs.Stretches.{none_recorded, recorded_joined}
use Rattle.replay_laws.specs.RunLog.{end_of_thread}
use Rattle.recorder.specs.Words.{generator_of, exponent_of, below, behind_word, accesses_by, word_of}
use Rattle.recorder.specs.Draw.{candidates, IsStretch, IsDrawn, IsDrawnWhole, IsRandomRun}
use Rattle.recorder.specs.Making.{steps_at, MakesStretch, DrawsOn, MakesDrawn}
use Rattle.recorder.proofs.Counting.{stretch_counts}
use Rattle.recorder.proofs.DrawnStretches.{recorded_taken, recorded_leads}

abbrev stretch_of : Pick → ℕ → Stretch
stretch_of p n = record { pick = p; times = n }

module _ {State Op Reply Value Fixed : Type 0} (space : Space Op Reply Value Fixed) (code : Code State Op Reply Fixed) (steps : ℕ) (timeouts : Bool) (exponent : ℕ) where
  -- none yet
  pub draws_none : (g : Lcg) (w : WorldAt State Value Fixed) (lists : List (List Entry)) → DrawsOn space code steps timeouts exponent g g w w [] lists lists
  draws_none g w lists = record { recorded = none_recorded space code steps w lists 0; drawn = λ ss d. d }

  -- one
  pub draws_one : (g : Lcg) (w v : WorldAt State Value Fixed) (p : Pick) (lists news : List (List Entry)) → slice_get (candidates space code steps timeouts w) (below (word_of g) (length (candidates space code steps timeouts w))) ≡ Some p
      → (x : MakesStretch space code steps p (accesses_by exponent (word_of (behind_word g))) w v lists news) → DrawsOn space code steps timeouts exponent g (behind_word (behind_word g)) w v (stretch_of p x.times ∷ []) lists news
  draws_one g w v p lists news is x =
      let leads = recorded_leads space code steps (replicate x.times p) w v lists news x.recorded in
      record {
        recorded = subst (λ ps. AreRecorded space code steps ps w v lists news 0 0) (sym (append-nil (replicate x.times p))) x.recorded;
        drawn = λ ss d. (record { pick = is; stretch = x.stretch }, subst (λ z. IsDrawn space code steps timeouts exponent (behind_word (behind_word g)) z ss) leads d);
      }

  -- one, by the draws of its pick and its accesses
  pub draw_made : (g h i : Lcg) (events count at times : ℕ) (picks : List Pick) (w v : WorldAt State Value Fixed) (p : Pick) (lists news : List (List Entry)) → picks ≡ candidates space code steps timeouts w → count ≡ length picks
      → at ≡ below (word_of g) count → slice_get picks at ≡ Some p → h ≡ behind_word g → events ≡ accesses_by exponent (word_of h) → i ≡ behind_word h
      → (x : MakesStretch space code steps p events w v lists news) → times ≡ x.times → DrawsOn space code steps timeouts exponent g i w v (stretch_of p times ∷ []) lists news
  draw_made g h i events count at times picks w v p lists news are counted drawn got next many last x made =
      let here : slice_get (candidates space code steps timeouts w) (below (word_of g) (length (candidates space code steps timeouts w))) ≡ Some p =
      ap (λ ps. slice_get ps (below (word_of g) (length ps))) (sym are) ∙ ap (λ n. slice_get picks (below (word_of g) n)) (sym counted) ∙ ap (slice_get picks) (sym drawn) ∙ got in
      let as_many : events ≡ accesses_by exponent (word_of (behind_word g)) = many ∙ ap (λ z. accesses_by exponent (word_of z)) next in
      let whole : MakesStretch space code steps p (accesses_by exponent (word_of (behind_word g))) w v lists news = record { times = x.times; recorded = x.recorded; stretch = subst (λ n. IsStretch space code steps w p n x.times) as_many x.stretch } in
      subst (λ n. DrawsOn space code steps timeouts exponent g i w v (stretch_of p n ∷ []) lists news) (sym made)
      (subst (λ z. DrawsOn space code steps timeouts exponent g z w v (stretch_of p x.times ∷ []) lists news) (sym (last ∙ ap behind_word next)) (draws_one g w v p lists news here whole))

  -- as many as its thread made steps more
  pub times_made : CodeLaws space code → (p : Pick) (events before after : ℕ) (w v : WorldAt State Value Fixed) (lists news : List (List Entry)) (x : MakesStretch space code steps p events w v lists news)
      → before ≡ steps_at code (slice_get w.threads p.thread) → after ≡ steps_at code (slice_get v.threads p.thread) → after - before ≡ x.times
  times_made rules p events before after w v lists news x was is =
      let more =
      ap (λ (z : WorldAt State Value Fixed). steps_at code (slice_get z.threads p.thread)) (recorded_leads space code steps (replicate x.times p) w v lists news x.recorded)
      ∙ stretch_counts space code rules steps p x.times w (recorded_taken space code steps (replicate x.times p) w v lists news x.recorded) in
      omega (arith, was, is, more)

  -- others behind them
  pub draws_on : (g h i : Lcg) (w v u : WorldAt State Value Fixed) (ss ts : List Stretch) (one two three : List (List Entry)) → DrawsOn space code steps timeouts exponent g h w v ss one two
      → DrawsOn space code steps timeouts exponent h i v u ts two three → DrawsOn space code steps timeouts exponent g i w u (ss ++ ts) one three
  draws_on g h i w v u ss ts one two three x y =
      record {
        recorded =
            subst (λ ps. AreRecorded space code steps ps w u one three 0 0) (sym (flat_map-append picks_of ss ts))
            (recorded_joined space code steps (picks_in ss) (picks_in ts) w v u one two three 0 0 0 x.recorded y.recorded);
        drawn = λ us d. subst (IsDrawn space code steps timeouts exponent g w) (sym (append_assoc ss ts us)) (x.drawn (ts ++ us) (y.drawn us d));
      }

-- all of them
module _ {State Op Reply Value Fixed : Type 0} (space : Space Op Reply Value Fixed) (code : Code State Op Reply Fixed) (steps : ℕ) (timeouts : Bool) (number : ℕ) where
  pub draws_all : (h : Lcg) (w v : WorldAt State Value Fixed) (ss : List Stretch) (lists news : List (List Entry)) → DrawsOn space code steps timeouts (exponent_of number) (behind_word (generator_of number)) h w v ss lists news
      → candidates space code steps timeouts v ≡ [] → MakesDrawn space code steps number timeouts w v ss lists news
  draws_all h w v ss lists news x none = record {
    recorded = x.recorded;
    drawn = subst (IsDrawn space code steps timeouts (exponent_of number) (behind_word (generator_of number)) w) (append-nil ss) (x.drawn [] none);
  }

  -- they are what is drawn, and each of their picks is taken
  pub whole_drawn : (w v : WorldAt State Value Fixed) (ss kept : List Stretch) (lists news : List (List Entry)) → kept ≡ ss → MakesDrawn space code steps number timeouts w v ss lists news → IsDrawnWhole space code steps number timeouts w kept
  whole_drawn w v ss kept lists news same x = subst (IsDrawnWhole space code steps number timeouts w) (sym same) (record {
    drawn = x.drawn;
    taken = recorded_taken space code steps (picks_in ss) w v lists news x.recorded;
    none_passed = let none = x.recorded.passed in omega (arith, none);
  })

  -- what is left of them
  pub random_run : (w v : WorldAt State Value Fixed) (ss : List Stretch) (lists news : List (List Entry)) (recorded : RecordedAt) → MakesDrawn space code steps number timeouts w v ss lists news → lists ≡ replicate (length w.threads) []
      → map (λ l. l.entries) recorded.threads ≡ news → map (λ l. l.end) recorded.threads ≡ map (end_of_thread code) v.threads → recorded.end ≡ end_of_world space code v → recorded.passed ≡ 0
      → IsRandomRun space code steps number timeouts w recorded
  random_run w v ss lists news recorded x empty logged ends ended none =
      let ps = picks_in ss in
      let all = recorded_taken space code steps ps w v lists news x.recorded in
      let leads = recorded_leads space code steps ps w v lists news x.recorded in
      let many : length lists ≡ length w.threads = ap length empty ∙ length-replicate (length w.threads) [] in
      record {
        stretches = ss;
        drawn = x.drawn;
        run = subst (IsRun space code w) all (taken_is_run space code steps w ps);
        log =
            recorded_log space code w v ps leads news recorded.threads logged ends
            (λ t l. x.recorded.logs t (subst (λ n. t < n) (sym many) l) ∙ ap (λ qs. list_at lists t ++ entries space code w qs t) all ∙ ap (λ l. l ++ entries space code w ps t) (ap (λ ls. list_at ls t) empty ∙ list_none (length w.threads) t))
            (x.recorded.len ∙ many);
        end = ended ∙ ap (end_of_world space code) leads;
        none_passed = none;
      }
