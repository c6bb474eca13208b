use Rattle.vfs_machine.proofs.machine.Machine.part.Goals as goal

pub returns-clause-found : goal.returns-clause-found
returns-clause-found g c = rw (← c.self.view_is) c.part.ensures.found

pub returns-clause-tree : goal.returns-clause-tree
returns-clause-tree g c = rw (← c.self.view_is) c.part.ensures.tree

pub returns-clause-last : goal.returns-clause-last
returns-clause-last g c = rw (← c.self.view_is) c.part.ensures.last
