use Rattle.program.proofs.Listings.{objects_form, chart_form, done_as, stopped_as}
use Rattle.program.proofs.gathering.list.Goals as goal

pub returns-in-ByObject-clause-done : goal.returns-in-ByObject-clause-done
returns-in-ByObject-clause-done g c =
    done_as _ _ (Unit {0}) _ c.args.skips c.show_text.result _ _ (objects_form c.args.form.now c.in-ByObject.only c.in-ByObject.shared c.as_slice.result.now c.in-ByObject.is c.as_slice.ensures.value)
    _ _ c.show_text.ensures.done

pub returns-in-ByObject-clause-stopped : goal.returns-in-ByObject-clause-stopped
returns-in-ByObject-clause-stopped g c =
    stopped_as _ _ _ _ c.args.skips c.show_text.result _ _ (objects_form c.args.form.now c.in-ByObject.only c.in-ByObject.shared c.as_slice.result.now c.in-ByObject.is c.as_slice.ensures.value)
    _ _ c.show_text.ensures.stopped

pub returns-in-Chart-clause-done : goal.returns-in-Chart-clause-done
returns-in-Chart-clause-done g c =
    done_as _ _ (Unit {0}) _ c.args.skips c.show_text-in-Chart.result _ _
    (chart_form c.args.form.now c.in-Chart.only c.in-Chart.from c.in-Chart.to c.as_slice-in-Chart.result.now c.event_of.result c.event_of-in-Chart.result c.in-Chart.is c.as_slice-in-Chart.ensures.value c.event_of.ensures c.event_of-in-Chart.ensures)
    _ _ c.show_text-in-Chart.ensures.done

pub returns-in-Chart-clause-stopped : goal.returns-in-Chart-clause-stopped
returns-in-Chart-clause-stopped g c =
    stopped_as _ _ _ _ c.args.skips c.show_text-in-Chart.result _ _
    (chart_form c.args.form.now c.in-Chart.only c.in-Chart.from c.in-Chart.to c.as_slice-in-Chart.result.now c.event_of.result c.event_of-in-Chart.result c.in-Chart.is c.as_slice-in-Chart.ensures.value c.event_of.ensures c.event_of-in-Chart.ensures)
    _ _ c.show_text-in-Chart.ensures.stopped
