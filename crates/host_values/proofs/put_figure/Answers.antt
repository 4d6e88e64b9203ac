-- `host_values::put_figure` meets its contract: each kind by its own.
use Rattle.host_values.proofs.put_figure.Goals as goal

pub returns-in-Ellipse : goal.returns-in-Ellipse
returns-in-Ellipse c = rw c.in-Ellipse.is c.put_plain.ensures

pub returns-in-CrateBox : goal.returns-in-CrateBox
returns-in-CrateBox c = rw c.in-CrateBox.is c.put_box.ensures

pub returns-in-W3cBox : goal.returns-in-W3cBox
returns-in-W3cBox c = rw c.in-W3cBox.is c.put_box-in-W3cBox.ensures
