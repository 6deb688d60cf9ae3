pub mod FreshTasksFinish
